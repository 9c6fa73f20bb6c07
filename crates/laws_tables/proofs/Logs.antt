-- Prefixes, and bytes of one connection.
use Rattle.std.proofs.Common.{◌≡◌, ◌≢◌, ℕ, true, List, [], ◌++◌, sym, ap, ◌∙◌, append_assoc, arith}
use Rattle.std.proofs.lemmas.{List.append-nil, Grind.common_steps}
use Rattle.vs_flow.specs.Connection.{Connection}
use Rattle.vs_page.specs.Fair.{IsPrefixOf}
use Rattle.laws_tables.specs.Drains.{is_same, only_on}

pub nothing_more : (xs : List ℕ) → xs ≡ xs ++ []
nothing_more xs = sym (append-nil xs)

-- Prefixes.
pub all_of : (xs ys : List ℕ) → xs ≡ ys → IsPrefixOf xs ys
all_of xs ys is = ([], sym is ∙ nothing_more xs)

pub longer : (xs ys more : List ℕ) → IsPrefixOf xs ys → IsPrefixOf xs (ys ++ more)
longer xs ys more (rest, is) = (rest ++ more, ap (λ (zs : List ℕ). zs ++ more) is ∙ append_assoc xs rest more)

pub shorter : (xs ys zs : List ℕ) → IsPrefixOf (xs ++ ys) zs → IsPrefixOf xs zs
shorter xs ys zs (rest, is) = (ys ++ rest, is ∙ append_assoc xs ys rest)

pub prefix_then : (xs ys zs : List ℕ) → IsPrefixOf xs ys → IsPrefixOf ys zs → IsPrefixOf xs zs
prefix_then xs ys zs (a, p) (b, q) = (a ++ b, q ∙ ap (λ (l : List ℕ). l ++ b) p ∙ append_assoc xs a b)

-- On one connection alone.
pub same_connection : (c d : Connection) → is_same c d ≡ true → c ≡ d
same_connection c d is = grind (arith, common_steps)

pub there_on : (c : Connection) (xs bytes : List ℕ) → xs ++ only_on c bytes c ≡ xs ++ bytes
there_on c xs bytes = grind (arith, common_steps)

pub not_on : (c d : Connection) (xs bytes : List ℕ) → d ≢ c → xs ++ only_on c bytes d ≡ xs
not_on c d xs bytes other = grind (arith, common_steps)

pub none_on_any : (c d : Connection) (xs : List ℕ) → xs ++ only_on c [] d ≡ xs
none_on_any c d xs = grind (arith, common_steps)
