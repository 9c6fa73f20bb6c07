-- What connect comes to in each case.
use Rattle.std.proofs.Common.{◌≡◌, ℕ, true, None, Result, Ok, refl}
use Rattle.vs_contents.specs.CallTree.{Done, bind}
use Rattle.vs_ring_port.specs.Contents.{RingContents}
use Rattle.vs_driver_parts.specs.{declared.answers.ConnectError.ConnectError, State.DriverState, Connections.{connect_refusal, connected}}
use Rattle.vs_driver_parts.specs.Conversations.{DriverTree, connect_to, connect_with_page, request_bytes, post_packet, reap_all, has_page}
use Rattle.vs_driver.proofs.Rest.{IsLeft, left_as}

abbrev pub after_post : ℕ → ℕ → DriverState → DriverTree (DriverState × Result ℕ ConnectError)
after_post peer to t = Done (connected peer to t, Ok t.next_id)

module _ (peer to : ℕ) (s : DriverState) (c : RingContents) where
  pub reaps : connect_refusal peer to s ≡ None → IsLeft (connect_to peer to s) c (bind (reap_all s) (connect_with_page peer to)) c
  reaps is = left_as (connect_to peer to s) (bind (reap_all s) (connect_with_page peer to)) c (rw (is, connect_to) refl)

  pub finds_page : has_page s ≡ true → IsLeft (connect_with_page peer to s) c (bind (post_packet (request_bytes peer to s) s) (after_post peer to)) c
  finds_page is =
      left_as (connect_with_page peer to s) (bind (post_packet (request_bytes peer to s) s) (after_post peer to)) c (rw (is, connect_with_page) refl)
