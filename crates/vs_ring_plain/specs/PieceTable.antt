-- The pieces of chains that are held.
use Rattle.std.specs.Prelude.{ℕ, Bool, true, false, List, [], ◌∷◌, Option, None, Some, Result, Ok, Err}
use Rattle.vs_ring_port.specs.declared.{queue.Queue.{Queue, TheVariants.{Rx, Tx, Event}}, device_ring.Chain.Chain, failure.Failure.Failure}
use Rattle.vs_ring_plain.specs.{Chain.{Taken, NoChain, Failed, Chain as Found}, Device.{HeldChain, chain_at}, declared.holds.HeldPieces.{HeldPieces, TheVariants.{One, Listed}}}
use Rattle.vs_ring_plain.specs.declared.piece.Piece.{Piece}

-- For each queue a list of pieces, with room for so many.
pub record PieceTable : Type 0 where
  pub room : ℕ
  pub rx : List Piece
  pub tx : List Piece
  pub event : List Piece

-- The list of a queue, and the lists with another there.
abbrev pub list_at : Queue → PieceTable → List Piece
list_at Rx lists = lists.rx
list_at Tx lists = lists.tx
list_at Event lists = lists.event

abbrev pub with_list : Queue → List Piece → PieceTable → PieceTable
with_list Rx list lists = record lists { rx = list }
with_list Tx list lists = record lists { tx = list }
with_list Event list lists = record lists { event = list }

-- The pieces of a chain, where its queue's list has these.
abbrev pub pieces_in : HeldPieces → List Piece → List Piece
pieces_in (One piece) listed = piece ∷ []
pieces_in Listed listed = listed

abbrev pub is_listed : HeldPieces → Bool
is_listed (One piece) = false
is_listed Listed = true

-- The chains held, newest first, of queues of a size.
pub record HeldState : Type 0 where
  pub size : ℕ
  pub chains : List HeldChain

-- What comes of taking, and the chains held then.
abbrev pub keeping : Queue → ℕ → Taken → List HeldChain → Result (Option Chain) Failure × List HeldChain
keeping queue place NoChain held = (Ok None, held)
keeping queue place (Found head pieces) held =
    let chain = chain_at queue place pieces in (Ok (Some chain), record { chain = chain; head = head; pieces = pieces } ∷ held)
keeping queue place (Failed failure) held = (Err failure, held)
