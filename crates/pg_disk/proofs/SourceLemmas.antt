-- What a read takes from a source.
use Rattle.std.proofs.Common.{◌≡◌, ℕ, ◌+◌, ◌-◌, ◌≤◌, List, ◌++◌, length, take, drop, Some, refl, sym, ◌∙◌, ap, arith, length-drop, take-append-drop}
use Rattle.std.proofs.lemmas.List.{drop-drop, length-take-le, take-append-le, take_all}
use Rattle.pg_disk.specs.Reads.{TakesFrom}

same_some : (x y : List ℕ) → Some x ≡ Some y → x ≡ y
same_some x y e = cc

-- the front of what was left is in the buffer, and the rest is left
pub takes_front : (bytes front back : List ℕ) (at n : ℕ) → at + n ≤ length bytes → front ≡ take ((at + n) - at) (drop at bytes) → TakesFrom (Some (drop at bytes)) (Some (drop (at + n) bytes)) (take n (front ++ back))
takes_front bytes front back at n le is = λ xs was.
    let size : n ≤ length (drop at bytes) = omega (arith, length-drop at bytes) in
    let count : (at + n) - at ≡ n = omega arith in
    let front_is : front ≡ take n (drop at bytes) = is ∙ ap (λ k. take k (drop at bytes)) count in
    let long : length front ≡ n = ap length front_is ∙ length-take-le n (drop at bytes) size in
    let taken : take n (front ++ back) ≡ take n (drop at bytes) = take-append-le n front back (omega (arith, long)) ∙ take_all n front (omega (arith, long)) ∙ front_is in
    let rest : drop (at + n) bytes ≡ drop n (drop at bytes) = sym (drop-drop n at bytes) in
    (drop (at + n) bytes, refl, sym (same_some (drop at bytes) xs was) ∙ sym (take-append-drop n (drop at bytes)) ∙ ap (λ l. l ++ drop n (drop at bytes)) (sym taken) ∙ ap (λ l. take n (front ++ back) ++ l) (sym rest))
