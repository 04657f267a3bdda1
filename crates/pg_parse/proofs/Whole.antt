-- From a phrase of the highest rule to a whole filter.
use Rattle.std.proofs.Common.{◌≡◌, ◌≤◌, ◌-◌, ℕ, suc, List, [], ◌∷◌, ◌++◌, length, take, refl, sym, ◌∙◌, ap, subst, append_assoc, append-nil, length-append, arith, Err}
use Rattle.pg_parse.specs.declared.word.Word.{Word}
use Rattle.pg_parse.specs.declared.tree.Tree.{Tree}
use Rattle.pg_parse.specs.declared.refusal.Refusal.{Refusal}
use Rattle.pg_parse.specs.declared.refusal.Refusal.TheVariants as refusals
use Rattle.pg_parse.specs.Grammar.{OrRule, Phrase, spelled, tree_of, Fits, ReadsWords, Begins, IsRefusedAt}
use Rattle.pg_parse.specs.Parsing.{Agree, IsRead, IsRefused, Gives, IsFault, phrases, IsReadAs, IsRefusedWith}
use Rattle.pg_parse.proofs.Languages.{agree_same, cancel}

-- the front begins a filter, and with the next word of the rest none
pub record Stops (front rest : List Word) : Type 0 where
  pub begins : Begins front
  pub stops : (q : Phrase OrRule) (after : List Word) → Fits 100 q → Agree rest after → spelled q ≡ front ++ after → ⊥

pub take_front : (front rest : List Word) → take (length front) (front ++ rest) ≡ front
take_front [] rest = refl
take_front (x ∷ front) rest = ap (λ ws. x ∷ ws) (take_front front rest)

pub take_next : (front rest : List Word) (w : Word) → take (suc (length front)) (front ++ (w ∷ rest)) ≡ front ++ (w ∷ [])
take_next [] rest w = refl
take_next (x ∷ front) rest w = ap (λ ws. x ∷ ws) (take_next front rest w)

pub never_begins : (front rest : List Word) → Stops front rest → suc (length front) ≤ length (front ++ rest) → Begins (take (suc (length front)) (front ++ rest)) → ⊥
never_begins front [] s more b = let h = length-append front [] in omega arith
never_begins front (w ∷ rest) s more b =
    let q = b.2.0 in
    let is : spelled q ≡ front ++ (w ∷ b.0) = b.2.2 ∙ (ap (λ ws. ws ++ b.0) (take_next front rest w) ∙ append_assoc front (w ∷ []) b.0) in
    s.stops q (w ∷ b.0) b.2.1 refl is

pub no_reading : (all front rest : List Word) → all ≡ front ++ rest → Stops front rest → (tree : Tree) → ReadsWords all tree → ⊥
no_reading all front rest split s tree r = s.stops r.0 rest r.1 (agree_same rest) (r.2 ∙ split)

pub refused_there : (front rest : List Word) → Stops front rest → IsRefusedAt (front ++ rest) (length front)
refused_there front rest s = record {
  within = let h = length-append front rest in omega arith;
  begins = subst Begins (sym (take_front front rest)) s.begins;
  stops = never_begins front rest s;
  unfinished = λ _ tree r. no_reading (front ++ rest) front rest refl s tree r;
}

pub refused_place : (all front rest : List Word) (left : ℕ) → all ≡ front ++ rest → length rest ≡ left → Stops front rest → (left ≤ length all) × IsRefusedAt all (length all - left)
refused_place all front rest left split place s =
    let sum = ap length split ∙ length-append front rest in
    let at : length front ≡ length all - left = omega arith in
    ((omega arith), subst (λ n. IsRefusedAt all n) at (subst (λ ws. IsRefusedAt ws (length front)) (sym split) (refused_there front rest s)))

-- from what the highest function answers
pub stops_refused : (all : List Word) (left : ℕ) (r : IsRefused (phrases OrRule 100) all left) → Stops r.front r.rest
stops_refused all left r = record {
  begins = (r.more, tree_of r.part, (r.part, r.fits, r.begins, refl));
  stops = λ q after f agree same. r.stops q [] after f tt agree (append-nil (spelled q) ∙ same);
}

pub no_more : (p q : Phrase OrRule) (w : Word) (rest after : List Word) → q ≡ p → Agree (w ∷ rest) after → spelled q ≡ spelled p ++ after → ⊥
no_more p q w rest [] e agree same = elim agree [ ]
no_more p q w rest (x ∷ after) e agree same =
    let none : [] ≡ x ∷ after = cancel (spelled p) [] (x ∷ after) (append-nil (spelled p) ∙ (sym (ap (λ q. spelled q) e) ∙ same)) in cc none

pub stops_behind : (all : List Word) (w : Word) (rest : List Word) (p : Phrase OrRule) → IsRead (phrases OrRule 100) all p (w ∷ rest) → Stops (spelled p) (w ∷ rest)
stops_behind all w rest p r = record {
  begins = ([], tree_of p, (p, r.fits, sym (append-nil (spelled p)), refl));
  stops = λ q after f agree same. no_more p q w rest after (r.only q [] after f tt agree (append-nil (spelled q) ∙ same)) agree same;
}

pub fault_refused : (all : List Word) (e : Refusal) → IsFault (phrases OrRule 100) all e → IsRefusedWith all e
fault_refused all refusals.Memory a = tt
fault_refused all (refusals.Left left) a = refused_place all a.front a.rest left a.split a.place (stops_refused all left a)

pub fault_only : (all : List Word) (e : Refusal) → IsFault (phrases OrRule 100) all e → (tree : Tree) → ReadsWords all tree → IsReadAs tree (Err e)
fault_only all refusals.Memory a tree r = tt
fault_only all (refusals.Left left) a tree r = no_reading all a.front a.rest a.split (stops_refused all left a) tree r

pub behind_refused : (all : List Word) (tree : Tree) (rest : List Word) → (length rest ≡ 0 → ⊥) → Gives (phrases OrRule 100) (λ p. tree_of p) all tree rest → (length rest ≤ length all) × IsRefusedAt all (length all - length rest)
behind_refused all tree [] some g = elim (some refl) [ ]
behind_refused all tree (w ∷ rest) some g = refused_place all (spelled g.part) (w ∷ rest) (length (w ∷ rest)) g.read.split refl (stops_behind all w rest g.part g.read)

pub behind_only : (all : List Word) (tree : Tree) (rest : List Word) → (length rest ≡ 0 → ⊥) → Gives (phrases OrRule 100) (λ p. tree_of p) all tree rest → (other : Tree) → ReadsWords all other → ⊥
behind_only all tree [] some g other o = elim (some refl) [ ]
behind_only all tree (w ∷ rest) some g other o = no_reading all (spelled g.part) (w ∷ rest) g.read.split (stops_behind all w rest g.part g.read) other o

pub no_length : (w : Word) (rest : List Word) → length (w ∷ rest) ≡ 0 → ⊥
no_length w rest none = omega arith

pub whole_reads : (all : List Word) (tree : Tree) (rest : List Word) → length rest ≡ 0 → Gives (phrases OrRule 100) (λ p. tree_of p) all tree rest → ReadsWords all tree
whole_reads all tree [] none g = (g.part, g.read.fits, sym (g.read.split ∙ append-nil (spelled g.part)), g.value_is)
whole_reads all tree (w ∷ rest) none g = elim (no_length w rest none) [ ]

pub whole_only : (all : List Word) (tree : Tree) (rest : List Word) → length rest ≡ 0 → Gives (phrases OrRule 100) (λ p. tree_of p) all tree rest → (other : Tree) → ReadsWords all other → tree ≡ other
whole_only all tree (w ∷ rest) none g other o = elim (no_length w rest none) [ ]
whole_only all tree [] none g other o =
    let e = g.read.only o.0 [] [] o.1 tt tt (append-nil (spelled o.0) ∙ (o.2 ∙ g.read.split)) in
    sym g.value_is ∙ (ap (λ q. tree_of q) (sym e) ∙ o.3)
