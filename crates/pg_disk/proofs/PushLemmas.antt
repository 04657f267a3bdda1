-- One more event joins the record.
use Rattle.std.proofs.Common.{◌≡◌, ◌⊎◌, inl, inr, ⊎_elim, ℕ, zero, suc, ◌≤◌, List, [], ◌∷◌, ◌++◌, length, take, drop, Some, Result, Ok, Err, OnOk, OnErr, refl, sym, ◌∙◌, ap, subst, arith, length-append}
use Rattle.std.proofs.lemmas.List.{take-append-le, drop-append-le}
use Rattle.pg_disk.specs.Files.{Files}
use Rattle.pg_disk.specs.Account.{Account}
use Rattle.pg_disk.specs.Image.{Leaves}
use Rattle.pg_disk.specs.Elapsing.{Elapses}
use Rattle.pg_disk.specs.declared.call_record.Event.{Event}
use Rattle.pg_disk.specs.Replay.{step, completed, replay, LeftIn, LeftSince, start}

pub after_push : (a : Account) (es : List Event) (e : Event) → replay a (es ++ e ∷ []) ≡ step e (replay a es)
after_push a [] e = refl
after_push a (x ∷ es) e = after_push (step x a) es e

pub after_event : (old new : List Event) (e : Event) → new ≡ old ++ e ∷ [] → replay start new ≡ step e (replay start old)
after_event old new e is = ap (λ (es : List Event). replay start es) is ∙ after_push start old e

-- what holds of the account after the event holds of the record's account
pub by_event : (P : Account → Type 0) (old new : List Event) (e : Event) → new ≡ old ++ e ∷ [] → P (step e (replay start old)) → P (replay start new)
by_event P old new e is holds = subst P (sym (after_event old new e is)) holds

-- the record is one of two
pub either_way : {T E : Type 0} (r : Result T E) (P : List Event → Type 0) (old new : List Event) (e : Event) → OnOk r (new ≡ old ++ e ∷ []) → OnErr r (new ≡ old) → P (old ++ e ∷ []) → P old → P new
either_way (Ok x) P old new e ok err pushed same = subst P (sym ok) pushed
either_way (Err x) P old new e ok err pushed same = subst P (sym err) same

-- what holds of the account before and after the event holds of the record's account
pub by_push : {T E : Type 0} (r : Result T E) (P : Account → Type 0) (old new : List Event) (e : Event) → OnOk r (new ≡ old ++ e ∷ []) → OnErr r (new ≡ old) → P (step e (replay start old)) → P (replay start old) → P (replay start new)
by_push r P old new e ok err stepped same = either_way r (λ es. P (replay start es)) old new e ok err (by_event P old (old ++ e ∷ []) e refl stepped) same

adds : (a : Account) (es : List Event) (e : Event) (c : Files) (b : List ℕ) → LeftIn a (es ++ e ∷ []) c b
    → LeftIn a es c b ⊎ (Leaves (Some (step (completed e) (replay a es))) c b ⊎ Leaves (Some (step e (replay a es))) c b)
adds a [] e c b (inl now) = inl now
adds a [] e c b (inr new) = inr new
adds a (x ∷ es) e c b (inl now) = inl (inl now)
adds a (x ∷ es) e c b (inr (inl whole)) = inl (inr (inl whole))
adds a (x ∷ es) e c b (inr (inr there)) = ⊎_elim (λ was. inl (inr (inr was))) (λ new. inr new) (adds (step x a) es e c b there)

keeps : (a : Account) (es : List Event) (e : Event) (c : Files) (b : List ℕ) → LeftIn a es c b → LeftIn a (es ++ e ∷ []) c b
keeps a [] e c b now = inl now
keeps a (x ∷ es) e c b (inl now) = inl now
keeps a (x ∷ es) e c b (inr (inl whole)) = inr (inl whole)
keeps a (x ∷ es) e c b (inr (inr there)) = inr (inr (keeps (step x a) es e c b there))

after_split : (a : Account) (t : ℕ) (es : List Event) → replay (replay a (take t es)) (drop t es) ≡ replay a es
after_split a zero es = refl
after_split a (suc t) [] = refl
after_split a (suc t) (x ∷ es) = after_split (step x a) t es

-- no time goes by
pub elapses_same : (es : List Event) (within : Files → List ℕ → Type 0) → Elapses (length es) (length es) (LeftSince es) (LeftSince es) within
elapses_same es within = record { later = omega arith; nothing_else = λ t c b le left. inl left; keeps = λ t c b le left. left }

-- one more moment, at which a crash leaves what the account after the event allows, or after the complete one
pub elapses_to : (old new : List Event) (e : Event) (within : Files → List ℕ → Type 0) → new ≡ old ++ e ∷ [] → ((c : Files) (b : List ℕ) → Leaves (Some (step e (replay start old))) c b → within c b)
    → ((c : Files) (b : List ℕ) → Leaves (Some (step (completed e) (replay start old))) c b → within c b)
    → Elapses (length old) (length new) (LeftSince old) (LeftSince new) within
elapses_to old new e within is here whole = subst (λ (es : List Event). Elapses (length old) (length es) (LeftSince old) (LeftSince es) within) (sym is) (record {
  later = omega (arith, length-append old (e ∷ []));
  nothing_else = λ t c b le left.
      let moved : LeftIn (replay start (take t old)) (drop t old ++ e ∷ []) c b = split t c b le left in
      ⊎_elim (λ was. inl was) (⊎_elim (λ new. inr (whole c b (subst (λ a. Leaves (Some (step (completed e) a)) c b) (after_split start t old) new))) (λ new. inr (here c b (subst (λ a. Leaves (Some (step e a)) c b) (after_split start t old) new))))
      (adds (replay start (take t old)) (drop t old) e c b moved);
  keeps = λ t c b le left. join t c b le (keeps (replay start (take t old)) (drop t old) e c b left);
})
  where
    split : (t : ℕ) (c : Files) (b : List ℕ) → t ≤ length old → LeftSince (old ++ e ∷ []) t c b → LeftIn (replay start (take t old)) (drop t old ++ e ∷ []) c b
    split t c b le left =
        subst (λ (es : List Event). LeftIn (replay start es) (drop t old ++ e ∷ []) c b) (take-append-le t old (e ∷ []) le)
        (subst (λ (es : List Event). LeftIn (replay start (take t (old ++ e ∷ []))) es c b) (drop-append-le t old (e ∷ []) le) left)

    join : (t : ℕ) (c : Files) (b : List ℕ) → t ≤ length old → LeftIn (replay start (take t old)) (drop t old ++ e ∷ []) c b → LeftSince (old ++ e ∷ []) t c b
    join t c b le left =
        subst (λ (es : List Event). LeftIn (replay start (take t (old ++ e ∷ []))) es c b) (sym (drop-append-le t old (e ∷ []) le))
        (subst (λ (es : List Event). LeftIn (replay start es) (drop t old ++ e ∷ []) c b) (sym (take-append-le t old (e ∷ []) le)) left)
