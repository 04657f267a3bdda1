-- How parts of one kind are read by way of parts of others.
use Rattle.std.proofs.Common.{◌≡◌, ℕ, List, [], ◌∷◌, ◌++◌, length, refl, sym, ◌∙◌, ap, subst, append_assoc, Result, Ok, Err}
use Rattle.pg_parse.specs.declared.word.Word.{Word}
use Rattle.pg_parse.specs.declared.refusal.Refusal.{Refusal}
use Rattle.pg_parse.specs.declared.refusal.Refusal.TheVariants as refusals
use Rattle.pg_parse.specs.Parsing.{Agree, Language, IsRead, IsRefused, Gives, IsFault, Answers}

pub agree_same : (rest : List Word) → Agree rest rest
agree_same [] = tt
agree_same (w ∷ rest) = refl

pub agree_front : (front rest after : List Word) → Agree rest after → Agree (front ++ rest) (front ++ after)
agree_front [] rest after agree = agree
agree_front (w ∷ front) rest after agree = refl

pub agree_sym : (a b : List Word) → Agree a b → Agree b a
agree_sym [] [] e = tt
agree_sym [] (_ ∷ _) e = elim e [ ]
agree_sym (_ ∷ _) [] e = elim e [ ]
agree_sym (a ∷ _) (b ∷ _) e = sym e

pub cancel : (l a b : List Word) → l ++ a ≡ l ++ b → a ≡ b
cancel [] a b e = e
cancel (x ∷ l) a b e = cancel l a b (cc)

-- Of the upper parts, all that stand where these words do are lower ones with words before them.
pub record Lies (l m : Language) (words lead : List Word) (into : m.Part → l.Part) : Type 0 where
  pub words_are : (q : m.Part) → l.words_of (into q) ≡ lead ++ m.words_of q
  pub fits : (q : m.Part) → m.Fit q → l.Fit (into q)
  pub view : (p : l.Part) (behind : List Word) → l.Fit p → l.Behind behind → Agree words (l.words_of p ++ behind) → (q : m.Part) × (p ≡ into q) × m.Fit q
  pub behind : (ws : List Word) → l.Behind ws → m.Behind ws

module _ (l m : Language) (lead inner : List Word) (into : m.Part → l.Part) (lies : Lies l m (lead ++ inner) lead into) where
  -- what stands behind the words before a part
  pub lead_off : (q : m.Part) (p : l.Part) (behind front after : List Word) → p ≡ into q → l.words_of p ++ behind ≡ (lead ++ front) ++ after → m.words_of q ++ behind ≡ front ++ after
  lead_off q p behind front after e same = cancel lead (m.words_of q ++ behind) (front ++ after)
      (sym (append_assoc lead (m.words_of q) behind) ∙ (ap (λ ws. ws ++ behind) (sym (lies.words_are q)) ∙ (ap (λ p. l.words_of p ++ behind) (sym e) ∙ (same ∙ append_assoc lead front after))))

  pub agree_lead : (front rest behind after : List Word) (p : l.Part) → inner ≡ front ++ rest → Agree rest after → l.words_of p ++ behind ≡ (lead ++ front) ++ after → Agree (lead ++ inner) (l.words_of p ++ behind)
  agree_lead front rest behind after p split agree same =
      subst (λ ws. Agree ws (l.words_of p ++ behind)) (append_assoc lead front rest ∙ ap (λ ws. lead ++ ws) (sym split)) (subst (λ ws. Agree ((lead ++ front) ++ rest) ws) (sym same) (agree_front (lead ++ front) rest after agree))

  pub lies_read : (q : m.Part) (rest : List Word) → IsRead m inner q rest → IsRead l (lead ++ inner) (into q) rest
  lies_read q rest r = record {
    fits = lies.fits q r.fits;
    split = ap (λ ws. lead ++ ws) r.split ∙ (sym (append_assoc lead (m.words_of q) rest) ∙ ap (λ ws. ws ++ rest) (sym (lies.words_are q)));
    only = λ p behind after f follows agree same.
        let same1 = same ∙ ap (λ ws. ws ++ after) (lies.words_are q) in
        let v = lies.view p behind f follows (agree_lead (m.words_of q) rest behind after p r.split agree same1) in
        let e : v.0 ≡ q = r.only v.0 behind after v.2 (lies.behind behind follows) agree (lead_off v.0 p behind (m.words_of q) after v.1 same1) in
        v.1 ∙ ap into e;
  }

  pub lies_refused : (left : ℕ) → IsRefused m inner left → IsRefused l (lead ++ inner) left
  lies_refused left r = record {
    front = lead ++ r.front;
    rest = r.rest;
    split = ap (λ ws. lead ++ ws) r.split ∙ sym (append_assoc lead r.front r.rest);
    place = r.place;
    part = into r.part;
    more = r.more;
    fits = lies.fits r.part r.fits;
    begins = lies.words_are r.part ∙ (ap (λ ws. lead ++ ws) r.begins ∙ sym (append_assoc lead r.front r.more));
    stops = λ p behind after f follows agree same.
        let v = lies.view p behind f follows (agree_lead r.front r.rest behind after p r.split agree same) in
        r.stops v.0 behind after v.2 (lies.behind behind follows) agree (lead_off v.0 p behind r.front after v.1 same);
  }

-- nothing that fits begins with the next word
pub refused_here : (l : Language) (words : List Word) (part : l.Part) → l.Fit part → ((q : l.Part) (behind : List Word) → l.Fit q → l.Behind behind → Agree words (l.words_of q ++ behind) → ⊥) → IsRefused l words (length words)
refused_here l words part fits never = record {
  front = [];
  rest = words;
  split = refl;
  place = refl;
  part = part;
  more = l.words_of part;
  fits = fits;
  begins = refl;
  stops = λ q behind after f follows agree same. never q behind f follows (subst (λ ws. Agree words ws) (sym same) agree);
}

-- One part behind another, where the first tells which of the second fit.
pub record Follow (l m : Language) (N : Type 0) (words_of : N → List Word) (Fit : m.Part → N → Type 0) (Behind : List Word → Type 0) (into : m.Part → N → l.Part) : Type 0 where
  pub words_are : (a : m.Part) (b : N) → Fit a b → l.words_of (into a b) ≡ m.words_of a ++ words_of b
  pub fits : (a : m.Part) (b : N) → m.Fit a → Fit a b → l.Fit (into a b)
  pub view : (p : l.Part) → l.Fit p → (a : m.Part) × (b : N) × (p ≡ into a b) × m.Fit a × Fit a b
  pub between : (a : m.Part) (b : N) (ws : List Word) → Fit a b → l.Behind ws → m.Behind (words_of b ++ ws)
  pub behind : (ws : List Word) → l.Behind ws → Behind ws

module _ (l m : Language) (N : Type 0) (words_of : N → List Word) (Fit : m.Part → N → Type 0) (Behind : List Word → Type 0) (into : m.Part → N → l.Part)
    (both : Follow l m N words_of Fit Behind into) where
  -- the second part behind the first
  abbrev pub second : m.Part → Language
  second a = record { Part = N; words_of = words_of; Fit = Fit a; Behind = Behind }

  pub parted : (p : l.Part) (a : m.Part) (b : N) (behind text : List Word) → Fit a b → p ≡ into a b → l.words_of p ++ behind ≡ text → m.words_of a ++ (words_of b ++ behind) ≡ text
  parted p a b behind text f e same = sym (append_assoc (m.words_of a) (words_of b) behind) ∙ (ap (λ ws. ws ++ behind) (sym (both.words_are a b f)) ∙ (ap (λ p. l.words_of p ++ behind) (sym e) ∙ same))

  pub first_refused : (words : List Word) (left : ℕ) → ((a : m.Part) → (b : N) × Fit a b) → IsRefused m words left → IsRefused l words left
  first_refused words left other r =
      let b = other r.part in record {
        front = r.front;
        rest = r.rest;
        split = r.split;
        place = r.place;
        part = into r.part b.0;
        more = r.more ++ words_of b.0;
        fits = both.fits r.part b.0 r.fits b.1;
        begins = both.words_are r.part b.0 b.1 ∙ (ap (λ ws. ws ++ words_of b.0) r.begins ∙ append_assoc r.front r.more (words_of b.0));
        stops = λ p behind after f follows agree same.
            let v = both.view p f in
            r.stops v.0 (words_of v.1 ++ behind) after v.3 (both.between v.0 v.1 behind v.4 follows) agree (parted p v.0 v.1 behind (r.front ++ after) v.4 v.2 same);
      }

  -- the first part was read, so it is the first of every whole
  pub record IsLed (a : m.Part) (p : l.Part) (behind after : List Word) : Type 0 where
    pub other : N
    pub is : p ≡ into a other
    pub fits : Fit a other
    pub same : words_of other ++ behind ≡ after

  pub led : (words between : List Word) (a : m.Part) → IsRead m words a between → (p : l.Part) (behind after : List Word) → l.Fit p → l.Behind behind → Agree between after
      → l.words_of p ++ behind ≡ m.words_of a ++ after → IsLed a p behind after
  led words between a r p behind after f follows agree same =
      let v = both.view p f in
      let at = parted p v.0 v.1 behind (m.words_of a ++ after) v.4 v.2 same in
      let e : v.0 ≡ a = r.only v.0 (words_of v.1 ++ behind) after v.3 (both.between v.0 v.1 behind v.4 follows) agree at in
      record {
        other = v.1;
        is = v.2 ∙ ap (λ a. into a v.1) e;
        fits = subst (λ a. Fit a v.1) e v.4;
        same = cancel (m.words_of a) (words_of v.1 ++ behind) after (ap (λ a. m.words_of a ++ (words_of v.1 ++ behind)) (sym e) ∙ at);
      }

  pub both_read : (words between rest : List Word) (a : m.Part) (b : N) → IsRead m words a between → IsRead (second a) between b rest → IsRead l words (into a b) rest
  both_read words between rest a b r s = record {
    fits = both.fits a b r.fits s.fits;
    split = r.split ∙ (ap (λ ws. m.words_of a ++ ws) s.split ∙ (sym (append_assoc (m.words_of a) (words_of b) rest) ∙ ap (λ ws. ws ++ rest) (sym (both.words_are a b s.fits))));
    only = λ p behind after f follows agree same.
        let same1 = same ∙ (ap (λ ws. ws ++ after) (both.words_are a b s.fits) ∙ append_assoc (m.words_of a) (words_of b) after) in
        let agree1 = subst (λ ws. Agree ws (words_of b ++ after)) (sym s.split) (agree_front (words_of b) rest after agree) in
        let d = led words between a r p behind (words_of b ++ after) f follows agree1 same1 in
        d.is ∙ ap (λ b. into a b) (s.only d.other behind after d.fits (both.behind behind follows) agree d.same);
  }

  pub second_refused : (words between : List Word) (a : m.Part) (left : ℕ) → IsRead m words a between → IsRefused (second a) between left → IsRefused l words left
  second_refused words between a left r s = record {
    front = m.words_of a ++ s.front;
    rest = s.rest;
    split = r.split ∙ (ap (λ ws. m.words_of a ++ ws) s.split ∙ sym (append_assoc (m.words_of a) s.front s.rest));
    place = s.place;
    part = into a s.part;
    more = s.more;
    fits = both.fits a s.part r.fits s.fits;
    begins = both.words_are a s.part s.fits ∙ (ap (λ ws. m.words_of a ++ ws) s.begins ∙ sym (append_assoc (m.words_of a) s.front s.more));
    stops = λ p behind after f follows agree same.
        let same1 = same ∙ append_assoc (m.words_of a) s.front after in
        let agree1 = subst (λ ws. Agree ws (s.front ++ after)) (sym s.split) (agree_front s.front s.rest after agree) in
        let d = led words between a r p behind (s.front ++ after) f follows agree1 same1 in
        s.stops d.other behind after d.fits (both.behind behind follows) agree d.same;
  }

-- The same of values and of refusals.
module _ (l m : Language) (lead inner : List Word) (into : m.Part → l.Part) (lies : Lies l m (lead ++ inner) lead into) where
  pub lies_gives : {V W : Type 0} (value : l.Part → V) (low : m.Part → W) (make : W → V) → ((q : m.Part) → m.Fit q → value (into q) ≡ make (low q)) → (w : W) (rest : List Word)
      → Gives m low inner w rest → Gives l value (lead ++ inner) (make w) rest
  lies_gives value low make same w rest g = record {
    part = into g.part;
    value_is = same g.part g.read.fits ∙ ap make g.value_is;
    read = lies_read l m lead inner into lies g.part rest g.read;
  }

  pub lies_fault : (e : Refusal) → IsFault m inner e → IsFault l (lead ++ inner) e
  lies_fault refusals.Memory a = tt
  lies_fault (refusals.Left left) a = lies_refused l m lead inner into lies left a

  pub lies_answers : {X V : Type 0} (value : l.Part → V) (low : m.Part → V) → ((q : m.Part) → m.Fit q → value (into q) ≡ low q) → (given : X → V) (rest : X → List Word) (r : Result X Refusal)
      → Answers m low inner given rest r → Answers l value (lead ++ inner) given rest r
  lies_answers value low same given rest (Ok x) a = lies_gives value low (λ v. v) same (given x) (rest x) a
  lies_answers value low same given rest (Err e) a = lies_fault e a

module _ (l m : Language) (N : Type 0) (words_of : N → List Word) (Fit : m.Part → N → Type 0) (Behind : List Word → Type 0) (into : m.Part → N → l.Part)
    (both : Follow l m N words_of Fit Behind into) where
  pub both_fault : (words : List Word) (e : Refusal) → ((a : m.Part) → (b : N) × Fit a b) → IsFault m words e → IsFault l words e
  both_fault words refusals.Memory other a = tt
  both_fault words (refusals.Left left) other a = first_refused l m N words_of Fit Behind into both words left other a

  pub both_fault_next : (words between : List Word) (a : m.Part) (e : Refusal) → IsRead m words a between → IsFault (second l m N words_of Fit Behind into both a) between e → IsFault l words e
  both_fault_next words between a refusals.Memory r s = tt
  both_fault_next words between a (refusals.Left left) r s = second_refused l m N words_of Fit Behind into both words between a left r s
