use Rattle.std.proofs.Common.{refl}
use Rattle.laws_plain_rings.proofs.laws.worked_examples.Goals as goal

pub returns-clause-pages : goal.returns-clause-pages
returns-clause-pages c = λ m base size. rw (base, size) refl

pub returns-clause-known : goal.returns-clause-known
returns-clause-known c = λ m base size still. rw (base, size, still) refl

pub returns-clause-no_room : goal.returns-clause-no_room
returns-clause-no_room c = λ m base size still. rw (base, size, still) refl

pub returns-clause-odd_size : goal.returns-clause-odd_size
returns-clause-odd_size c = λ m base size still. rw (base, size, still) refl
