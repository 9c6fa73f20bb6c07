-- What the host's programs do on a line, and what that prints, each with its LF; and what a line on the moment prints.
use Rattle.std.specs.Prelude.{ℕ, Bool, true, false, List, ◌++◌, codes, decimal}
use Rattle.vs_outside.specs.{Host.{HostContents, with_stream}, declared.mem_stream.HostWritten.HostWritten, HostProgram.{after_fail, after_host_write, after_listen}}
use Rattle.vs_outside.specs.HostProgram.{after_unlisten, allowed, closed, ended, has_stream, host_write_answer}
use Rattle.vs_script.specs.{Outside.{Host, HostListen, HostUnlisten, HostWrite, HostAllow, HostEnd, HostClosed, HostFail}, Data.bytes_of}
use Rattle.vs_header.specs.declared.Kind.TheVariants as kind
use Rattle.vs_outside.specs.declared.mem_stream.HostWritten.TheVariants as written

-- tick MS, host listen PORT, host unlisten PORT, host fail N
abbrev pub ok_text : List ℕ
ok_text = codes "ok\n"

-- client: the number of its stream
abbrev pub client_text : ℕ → List ℕ
client_text stream = codes "stream " ++ decimal stream ++ codes "\n"

-- host write H DATA
abbrev pub write_text : HostWritten → List ℕ
write_text written.Ok = codes "ok\n"
write_text written.Ended = codes "ended\n"
write_text written.NoStream = codes "no stream\n"

-- host allow H N, host end H, host closed H: whether there is such a stream
abbrev pub stream_there_text : Bool → List ℕ
stream_there_text true = codes "ok\n"
stream_there_text false = codes "no stream\n"

-- A line on the host's programs: the host after it, and what it prints.
abbrev pub host_played : Host → HostContents → HostContents × List ℕ
host_played (HostListen port) h = (after_listen port kind.Stream h, ok_text)
host_played (HostUnlisten port) h = (after_unlisten port kind.Stream h, ok_text)
host_played (HostWrite stream content) h =
    let a = host_write_answer stream h in (after_host_write stream (bytes_of content) a h, write_text a)
host_played (HostAllow stream n) h = (with_stream stream (allowed 18446744073709551615 n) h, stream_there_text (has_stream stream h))
host_played (HostEnd stream) h = (with_stream stream ended h, stream_there_text (has_stream stream h))
host_played (HostClosed stream) h = (with_stream stream closed h, stream_there_text (has_stream stream h))
host_played (HostFail n) h = (after_fail n h, ok_text)
