-- Streams that are open stay so, whatever the host's programs do.
use Rattle.std.proofs.Common.{◌≡◌, ◌≢◌, ℕ, zero, suc, ◌==◌, Bool, true, false, cond, List, [], ◌∷◌, ◌++◌, Option, Some, None, IsSomeAnd, refl, sym, ap, subst, ◌∙◌, arith}
use Rattle.std.{proofs.lemmas.Bool.Decides.nat_tests, specs.Prelude.{◌-◌, slice_get}}
use Rattle.vs_outside.specs.{HostProgram.{after_client, after_host_write, allowed, client_stream, closed, ended, host_write_answer, with_bytes}, Host.{HostContents, IsOpen}}
use Rattle.vs_outside.{specs.{Host.{Stream, stream_at, with_stream}, declared.mem_stream.HostWritten.HostWritten}, proofs.Frames.{keeps_others, open_of, stays_open}}
use Rattle.vs_outside.proofs.Frames.{stream_at-with_stream, stream_place}
use Rattle.vs_script.specs.{Data.bytes_of, Outside.{Host, HostListen, HostUnlisten, HostWrite, HostAllow, HostEnd, HostClosed, HostFail}}
use Rattle.vs_report.specs.HostLines.{host_played}
use Rattle.vs_outside.specs.declared.host_net.StreamState.TheVariants as state
use Rattle.vs_outside.specs.declared.mem_stream.HostWritten.TheVariants as written

abbrev pub Opens : HostContents → HostContents → Type 0
Opens h k = (id : ℕ) → IsOpen id h → IsOpen id k

open_stream : (o : Option Stream) → IsSomeAnd o (λ s. s.state ≡ state.Open) → (s : Stream) × (o ≡ Some s) × (s.state ≡ state.Open)
open_stream None h = absurd h
open_stream (Some s) h = (s, refl, h)

with_stream_opens : (stream : ℕ) (f : Stream → Stream) (h : HostContents) → ((s : Stream) → (f s).state ≡ s.state) → Opens h (with_stream stream f h)
with_stream_opens stream f h same id still = by (id == stream) refl
  where
    by : (b : Bool) → (id == stream) ≡ b → IsOpen id (with_stream stream f h)
    by true is =
        let one : stream ≡ id = grind (arith, nat_tests, is) in
        let s = open_stream (stream_at id h) still in
        subst (λ (k : ℕ). IsOpen id (with_stream k f h)) (sym one)
        (open_of id (with_stream id f h) (f s.0) (stream_at-with_stream id f h s.0 s.1) (same s.0 ∙ s.2))
    by false is =
        let differ : id ≢ stream = grind (arith, nat_tests, is) in stays_open stream id h (with_stream stream f h) (keeps_others stream f h) differ still

get_more : (xs ys : List Stream) (k : ℕ) (x : Stream) → slice_get xs k ≡ Some x → slice_get (xs ++ ys) k ≡ Some x
get_more [] ys k x h = cc
get_more (z ∷ zs) ys zero x h = h
get_more (z ∷ zs) ys (suc k) x h = get_more zs ys k x h

pub client_opens : (h : HostContents) → Opens h (after_client h)
client_opens h id still =
    let s = open_stream (stream_at id h) still in
    let p = stream_place id h s.0 s.1 in
    let more = h.streams ++ client_stream ∷ [] in
    let there : stream_at id (after_client h) ≡ Some s.0 =
    ap (λ (b : Bool). cond b None (slice_get more (id - 1))) p.0 ∙ get_more h.streams (client_stream ∷ []) (id - 1) s.0 p.1 in
    open_of id (after_client h) s.0 there s.2

write_opens : (stream : ℕ) (bytes : List ℕ) (a : HostWritten) (h : HostContents) → Opens h (after_host_write stream bytes a h)
write_opens stream bytes written.Ok h = with_stream_opens stream (with_bytes bytes) h (λ s. refl)
write_opens stream bytes written.Ended h = λ id still. still
write_opens stream bytes written.NoStream h = λ id still. still

pub host_opens : (line : Host) (h : HostContents) → Opens h (host_played line h).0
host_opens (HostListen port) h = λ id still. still
host_opens (HostUnlisten port) h = λ id still. still
host_opens (HostWrite stream content) h = write_opens stream (bytes_of content) (host_write_answer stream h) h
host_opens (HostAllow stream n) h = with_stream_opens stream (allowed 18446744073709551615 n) h (λ s. refl)
host_opens (HostEnd stream) h = with_stream_opens stream ended h (λ s. refl)
host_opens (HostClosed stream) h = with_stream_opens stream closed h (λ s. refl)
host_opens (HostFail n) h = λ id still. still
