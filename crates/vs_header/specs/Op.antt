-- The operations of the socket device and their numbers (Virtio 1.2, section 5.10.6).
use Rattle.std.specs.Prelude.{ℕ, [], ◌∷◌, Option, slice_get}
use Rattle.vs_header.specs.declared.Op.{Op, TheVariants.{Invalid, Request, Response, Rst, Shutdown, Rw, CreditUpdate, CreditRequest}}

-- The operation of a number: the operations count up from 0.
abbrev pub op_named : ℕ → Option Op
op_named number =
    slice_get (Invalid ∷ Request ∷ Response ∷ Rst ∷ Shutdown ∷ Rw ∷ CreditUpdate ∷ CreditRequest ∷ []) number

-- The number of an operation.
abbrev pub op_number : Op → ℕ
op_number Invalid = 0
op_number Request = 1
op_number Response = 2
op_number Rst = 3
op_number Shutdown = 4
op_number Rw = 5
op_number CreditUpdate = 6
op_number CreditRequest = 7
