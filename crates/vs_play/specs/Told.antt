-- What a line on one end of the rings does, and what it prints.
use Rattle.std.specs.Prelude.{◌≡◌, ℕ, List, ◌++◌}
use Rattle.vs_driver_parts.specs.{Conversations.DriverTree, Conversations.poll_of, State.DriverState}
use Rattle.vs_device_parts.specs.Calls.{DeviceTree}
use Rattle.vs_outside.specs.Host.{HostContents}
use Rattle.vs_proxy_parts.specs.State.{ProxyState}
use Rattle.vs_report.specs.GuestLines.{poll_text}
use Rattle.vs_ring_list.specs.Ends.{Ends}
use Rattle.vs_script.specs.{Data.bytes_of, Play.Event}
use Rattle.laws_world.specs.Over.{over_both, over_lists}
use Rattle.laws_driver.specs.Carried.Calls.{GuestCall, ReplyTo, whole_call}
use Rattle.vs_play.specs.{Lines.reply_text, Ready.IsDriven, Ready.IsServed}
use Rattle.vs_script.specs.Play as script
use Rattle.laws_driver.specs.Carried.Calls as call

-- A conversation of the driver's over the rings: its answer is printed behind what stood there, and the rings stay the driver's.
pub record Answers {A : Type 0} (tree : DriverTree (DriverState × A)) (text_of : A → DriverState → List ℕ) (new : DriverState) (v w : Ends)
    (text text' : List ℕ) : Type 0 where
  pub answer : A
  pub played : over_lists tree v ≡ ((new, answer), w)
  pub printed : text' ≡ text ++ text_of answer new
  pub driven : IsDriven new w

-- A call of the guest's.
abbrev pub Replies : GuestCall → DriverState → DriverState → Ends → Ends → List ℕ → List ℕ → Type 0
Replies c old new v w text text' = Answers {A = ReplyTo c} (whole_call c old) (reply_text c) new v w text text'

-- A line on the driver. Of any other line it says nothing.
abbrev pub Drives : Event → DriverState → DriverState → Ends → Ends → List ℕ → List ℕ → Type 0
Drives (script.Connect port) old new v w text text' = Replies (call.Connect port) old new v w text text'
Drives (script.Listen port) old new v w text text' = Replies (call.Listen port) old new v w text text'
Drives (script.Unlisten port) old new v w text text' = Replies (call.Unlisten port) old new v w text text'
Drives (script.Accept port) old new v w text text' = Replies (call.Accept port) old new v w text text'
Drives (script.Send id content) old new v w text text' = Replies (call.Send id (bytes_of content)) old new v w text text'
Drives (script.Recv id len) old new v w text text' = Replies (call.Recv id len) old new v w text text'
Drives (script.Shutdown id bits) old new v w text text' = Replies (call.Shutdown id bits) old new v w text text'
Drives (script.Grow id alloc) old new v w text text' = Replies (call.Grow id alloc) old new v w text text'
Drives (script.Close id) old new v w text text' = Replies (call.Close id) old new v w text text'
Drives (script.State id) old new v w text text' = Replies (call.LookAt id) old new v w text text'
Drives script.Poll old new v w text text' = Answers (poll_of old) (λ polled s. poll_text polled) new v w text text'
Drives (script.Around line) old new v w text text' = Unit {0}

-- A conversation of the proxy's over the rings and the host: its answer is printed, rings and host stay the proxy's, and the rings the driver's.
pub record Serves {A : Type 0} (tree : DeviceTree (ProxyState × A)) (text_of : A → List ℕ) (new : ProxyState) (v w : Ends) (h k : HostContents)
    (text text' : List ℕ) : Type 0 where
  pub answer : A
  pub played : over_both tree v h ≡ ((new, answer), (w, k))
  pub printed : text' ≡ text ++ text_of answer
  pub served : IsServed new w k
  pub driven : (s : DriverState) → IsDriven s v → IsDriven s w
