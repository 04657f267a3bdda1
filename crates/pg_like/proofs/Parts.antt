-- Texts that fall into parts, and the test of them.
use Rattle.std.proofs.Common.{◌≡◌, ◌==◌, ◌↔◌, ℕ, Bool, true, List, [], ◌∷◌, ◌++◌, refl, sym, ◌∙◌, ap}
use Rattle.std.specs.List.{concat}
use Rattle.std.proofs.lemmas.Bool.{eqb-true}
use Rattle.pg_like.specs.declared.piece.Piece.{Piece}
use Rattle.pg_like.specs.declared.piece.Piece.TheVariants.{Any, One, Just}
use Rattle.pg_like.specs.Pattern.{AllStandFor, IsLike, is_like}
use Rattle.pg_like.proofs.Passing.{like_just}
use Rattle.pg_like.proofs.Ends.{both_left, both_right, joined, parted}

parts_of : (pieces : List Piece) (text : List ℕ) → is_like pieces text ≡ true → IsLike pieces text
parts_of [] [] e = ([], refl, tt)
parts_of [] (c ∷ cs) e = cc
parts_of (Any ∷ pieces) text e =
    let two = parted pieces text e in
    let more = parts_of pieces two.1 two.3 in
    (two.0 ∷ more.0, ap (λ rest. two.0 ++ rest) more.1 ∙ sym two.2, (tt, more.2))
parts_of (One ∷ pieces) [] e = cc
parts_of (One ∷ pieces) (c ∷ cs) e =
    let more = parts_of pieces cs e in
    ((c ∷ []) ∷ more.0, ap (λ rest. c ∷ rest) more.1, ((c, refl), more.2))
parts_of (Just d ∷ pieces) [] e = cc
parts_of (Just d ∷ pieces) (c ∷ cs) e =
    let more = parts_of pieces cs (both_right (c == d) (is_like pieces cs) e) in
    ((c ∷ []) ∷ more.0, ap (λ rest. c ∷ rest) more.1, (ap (λ x. x ∷ []) (eqb-true c d (both_left (c == d) (is_like pieces cs) e)), more.2))

like_parts : (pieces : List Piece) (parts : List (List ℕ)) → AllStandFor pieces parts → is_like pieces (concat parts) ≡ true
like_parts [] [] stand = refl
like_parts [] (_ ∷ _) stand = elim stand [ ]
like_parts (Any ∷ _) [] stand = elim stand [ ]
like_parts (One ∷ _) [] stand = elim stand [ ]
like_parts (Just _ ∷ _) [] stand = elim stand [ ]
like_parts (Any ∷ pieces) (part ∷ parts) stand = joined pieces part (concat parts) (like_parts pieces parts stand.1)
like_parts (One ∷ pieces) (part ∷ parts) stand =
    ap (λ front. is_like (One ∷ pieces) (front ++ concat parts)) stand.0.1 ∙ like_parts pieces parts stand.1
like_parts (Just d ∷ pieces) (part ∷ parts) stand =
    ap (λ front. is_like (Just d ∷ pieces) (front ++ concat parts)) stand.0 ∙ (like_just d d pieces (concat parts) refl ∙ like_parts pieces parts stand.1)

-- what equals the test is true exactly where the text falls into such parts
pub exactly : (result : Bool) (pieces : List Piece) (text : List ℕ) → result ≡ is_like pieces text → (result ≡ true) ↔ IsLike pieces text
exactly result pieces text e =
    (λ yes. parts_of pieces text (sym e ∙ yes), λ like. e ∙ (ap (is_like pieces) (sym like.1) ∙ like_parts pieces like.0 like.2))
