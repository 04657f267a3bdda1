-- Parts that are chains of lower ones with operators between, grouped to the left.
use Rattle.std.proofs.Common.{◌≡◌, ℕ, List, [], ◌∷◌, ◌++◌, refl, sym, ◌∙◌, ap, subst, append_assoc, append-nil}
use Rattle.pg_parse.specs.declared.word.Word.{Word}
use Rattle.pg_parse.specs.declared.refusal.Refusal.{Refusal}
use Rattle.pg_parse.specs.declared.refusal.Refusal.TheVariants as refusals
use Rattle.pg_parse.specs.Parsing.{Agree, Language, Every, IsRead, IsRefused, Gives, IsFault}
use Rattle.pg_parse.proofs.Languages.{cancel}

-- a part, and further ones behind it
abbrev pub chain : {P Q O : Type 0} → (P → O → Q → P) → P → List (O × Q) → P
chain more p [] = p
chain more p (a ∷ tail) = chain more (more p a.0 a.1) tail

abbrev pub tail_words : {Q O : Type 0} → (Q → List Word) → (O → Word) → List (O × Q) → List Word
tail_words words_of op [] = []
tail_words words_of op (a ∷ tail) = op a.0 ∷ (words_of a.1 ++ tail_words words_of op tail)

-- a part is a first one and a tail
pub record HasFront {P Q O : Type 0} (one : Q → P) (more : P → O → Q → P) (p : P) : Type 0 where
  pub front : Q
  pub tail : List (O × Q)
  pub is : p ≡ chain more (one front) tail

pub chain_behind : {P Q O : Type 0} (more : P → O → Q → P) (p : P) (tail : List (O × Q)) (o : O) (a : Q) → chain more p (tail ++ ((o, a) ∷ [])) ≡ more (chain more p tail) o a
chain_behind more p [] o a = refl
chain_behind more p (b ∷ tail) o a = chain_behind more (more p b.0 b.1) tail o a

pub front_more : {P Q O : Type 0} (one : Q → P) (more : P → O → Q → P) (p : P) (o : O) (a : Q) → HasFront one more p → HasFront one more (more p o a)
front_more one more p o a h = record { front = h.front; tail = h.tail ++ ((o, a) ∷ []); is = ap (λ p. more p o a) h.is ∙ sym (chain_behind more (one h.front) h.tail o a) }

-- no operator comes next
abbrev pub NoneNext : {O : Type 0} → (O → Word) → List Word → Type 0
NoneNext {O} op rest = (o : O) (more : List Word) → Agree rest (op o ∷ more) → ⊥

pub record IsChained (l m : Language) (O : Type 0) (op : O → Word) (one : m.Part → l.Part) (more : l.Part → O → m.Part → l.Part) : Type 0 where
  pub one_words : (q : m.Part) → l.words_of (one q) ≡ m.words_of q
  pub more_words : (p : l.Part) (o : O) (q : m.Part) → l.words_of (more p o q) ≡ l.words_of p ++ (op o ∷ m.words_of q)
  pub one_fits : (q : m.Part) → m.Fit q → l.Fit (one q)
  pub fits_one : (q : m.Part) → l.Fit (one q) → m.Fit q
  pub more_fits : (p : l.Part) (o : O) (q : m.Part) → l.Fit p → m.Fit q → l.Fit (more p o q)
  pub fits_left : (p : l.Part) (o : O) (q : m.Part) → l.Fit (more p o q) → l.Fit p
  pub fits_right : (p : l.Part) (o : O) (q : m.Part) → l.Fit (more p o q) → m.Fit q
  pub op_follows : (o : O) (ws : List Word) → m.Behind (op o ∷ ws)
  pub low_follows : (ws : List Word) → l.Behind ws → m.Behind ws
  pub op_ends : (o : O) (ws : List Word) → l.Behind (op o ∷ ws) → ⊥
  pub op_is : (a b : O) → op a ≡ op b → a ≡ b
  pub has_front : (p : l.Part) → HasFront one more p

module _ (l m : Language) (O : Type 0) (op : O → Word) (one : m.Part → l.Part) (more : l.Part → O → m.Part → l.Part) (c : IsChained l m O op one more) where
  -- what was read so far, with which every part goes on
  pub record IsChain (words : List Word) (part : l.Part) (rest : List Word) : Type 0 where
    pub fits : l.Fit part
    pub split : words ≡ l.words_of part ++ rest
    pub leads : Every l (l.words_of part) rest (λ q. (tail : List (O × m.Part)) × (q ≡ chain more part tail))

  pub chain_words : (p : l.Part) (tail : List (O × m.Part)) → l.words_of (chain more p tail) ≡ l.words_of p ++ tail_words m.words_of op tail
  chain_words p [] = sym (append-nil (l.words_of p))
  chain_words p (a ∷ tail) = chain_words (more p a.0 a.1) tail ∙ (ap (λ ws. ws ++ tail_words m.words_of op tail) (c.more_words p a.0 a.1) ∙ append_assoc (l.words_of p) (op a.0 ∷ m.words_of a.1) (tail_words m.words_of op tail))

  pub fits_front : (p : l.Part) (tail : List (O × m.Part)) → l.Fit (chain more p tail) → l.Fit p
  fits_front p [] f = f
  fits_front p (a ∷ tail) f = c.fits_left p a.0 a.1 (fits_front (more p a.0 a.1) tail f)

  pub follows_tail : (tail : List (O × m.Part)) (behind : List Word) → l.Behind behind → m.Behind (tail_words m.words_of op tail ++ behind)
  follows_tail [] behind f = c.low_follows behind f
  follows_tail (a ∷ tail) behind f = c.op_follows a.0 ((m.words_of a.1 ++ tail_words m.words_of op tail) ++ behind)

  pub behind_chain : (p : l.Part) (tail : List (O × m.Part)) (q : l.Part) (behind after : List Word) → q ≡ chain more p tail → l.words_of q ++ behind ≡ l.words_of p ++ after → tail_words m.words_of op tail ++ behind ≡ after
  behind_chain p tail q behind after e same = cancel (l.words_of p) (tail_words m.words_of op tail ++ behind) after
      (sym (append_assoc (l.words_of p) (tail_words m.words_of op tail) behind) ∙ (ap (λ ws. ws ++ behind) (sym (chain_words p tail)) ∙ (ap (λ q. l.words_of q ++ behind) (sym e) ∙ same)))

  -- the first of the lower parts, and where it stands
  pub record IsFronted (q : l.Part) (behind text : List Word) : Type 0 where
    pub front : m.Part
    pub tail : List (O × m.Part)
    pub is : q ≡ chain more (one front) tail
    pub fits : m.Fit front
    pub follows : m.Behind (tail_words m.words_of op tail ++ behind)
    pub same : m.words_of front ++ (tail_words m.words_of op tail ++ behind) ≡ text

  pub fronted : (q : l.Part) (behind text : List Word) → l.Fit q → l.Behind behind → l.words_of q ++ behind ≡ text → IsFronted q behind text
  fronted q behind text f follows same = let h = c.has_front q in record {
    front = h.front;
    tail = h.tail;
    is = h.is;
    fits = c.fits_one h.front (fits_front (one h.front) h.tail (subst (λ q. l.Fit q) h.is f));
    follows = follows_tail h.tail behind follows;
    same = sym (append_assoc (m.words_of h.front) (tail_words m.words_of op h.tail) behind) ∙ (ap (λ ws. (ws ++ tail_words m.words_of op h.tail) ++ behind) (sym (c.one_words h.front)) ∙ (ap (λ ws. ws ++ behind) (sym (chain_words (one h.front) h.tail)) ∙ (ap (λ q. l.words_of q ++ behind) (sym h.is) ∙ same)));
  }

  pub chain_start : (words rest : List Word) (a : m.Part) → IsRead m words a rest → IsChain words (one a) rest
  chain_start words rest a r = record {
    fits = c.one_fits a r.fits;
    split = r.split ∙ ap (λ ws. ws ++ rest) (sym (c.one_words a));
    leads = λ q behind after f follows agree same.
        let h = fronted q behind (m.words_of a ++ after) f follows (same ∙ ap (λ ws. ws ++ after) (c.one_words a)) in
        let e : h.front ≡ a = r.only h.front (tail_words m.words_of op h.tail ++ behind) after h.fits h.follows agree h.same in
        (h.tail, h.is ∙ ap (λ a. chain more (one a) h.tail) e);
  }

  pub chain_refused : (words : List Word) (left : ℕ) → IsRefused m words left → IsRefused l words left
  chain_refused words left r = record {
    front = r.front;
    rest = r.rest;
    split = r.split;
    place = r.place;
    part = one r.part;
    more = r.more;
    fits = c.one_fits r.part r.fits;
    begins = c.one_words r.part ∙ r.begins;
    stops = λ q behind after f follows agree same.
        let h = fronted q behind (r.front ++ after) f follows same in
        r.stops h.front (tail_words m.words_of op h.tail ++ behind) after h.fits h.follows agree h.same;
  }

  -- where an operator comes next, every part goes on with it and a lower part
  pub record GoesOn (p q : l.Part) (o : O) (behind text : List Word) : Type 0 where
    pub next : m.Part
    pub tail : List (O × m.Part)
    pub is : q ≡ chain more (more p o next) tail
    pub fits : m.Fit next
    pub follows : m.Behind (tail_words m.words_of op tail ++ behind)
    pub same : m.words_of next ++ (tail_words m.words_of op tail ++ behind) ≡ text

  pub going_on : (p q : l.Part) (o : O) (tail : List (O × m.Part)) (behind text : List Word) → q ≡ chain more p tail → l.Fit q → l.Behind behind
      → tail_words m.words_of op tail ++ behind ≡ op o ∷ text → GoesOn p q o behind text
  going_on p q o [] behind text e f follows at = elim (c.op_ends o text (subst l.Behind at follows)) [ ]
  going_on p q o (b ∷ tail) behind text e f follows at =
      let first : op b.0 ≡ op o = cc at in
      let inner : (m.words_of b.1 ++ tail_words m.words_of op tail) ++ behind ≡ text = cc at in record {
        next = b.1;
        tail = tail;
        is = e ∙ ap (λ o. chain more (more p o b.1) tail) (c.op_is b.0 o first);
        fits = c.fits_right p b.0 b.1 (fits_front (more p b.0 b.1) tail (subst (λ q. l.Fit q) e f));
        follows = follows_tail tail behind follows;
        same = sym (append_assoc (m.words_of b.1) (tail_words m.words_of op tail) behind) ∙ inner;
      }

  pub goes_on : (words inner : List Word) (p : l.Part) (o : O) → IsChain words p (op o ∷ inner) → (q : l.Part) (behind text : List Word) → l.Fit q → l.Behind behind
      → l.words_of q ++ behind ≡ l.words_of p ++ (op o ∷ text) → GoesOn p q o behind text
  goes_on words inner p o i q behind text f follows same =
      let t = i.leads q behind (op o ∷ text) f follows refl same in
      going_on p q o t.0 behind text t.1 f follows (behind_chain p t.0 q behind (op o ∷ text) t.1 same)

  pub chain_step : (words inner rest : List Word) (p : l.Part) (o : O) (a : m.Part) → IsChain words p (op o ∷ inner) → IsRead m inner a rest → IsChain words (more p o a) rest
  chain_step words inner rest p o a i r = record {
    fits = c.more_fits p o a i.fits r.fits;
    split = i.split ∙ (ap (λ ws. l.words_of p ++ (op o ∷ ws)) r.split ∙ (sym (append_assoc (l.words_of p) (op o ∷ m.words_of a) rest) ∙ ap (λ ws. ws ++ rest) (sym (c.more_words p o a))));
    leads = λ q behind after f follows agree same.
        let same1 = same ∙ (ap (λ ws. ws ++ after) (c.more_words p o a) ∙ append_assoc (l.words_of p) (op o ∷ m.words_of a) after) in
        let g = goes_on words inner p o i q behind (m.words_of a ++ after) f follows same1 in
        let e : g.next ≡ a = r.only g.next (tail_words m.words_of op g.tail ++ behind) after g.fits g.follows agree g.same in
        (g.tail, g.is ∙ ap (λ a. chain more (more p o a) g.tail) e);
  }

  pub chain_refused_next : (words inner : List Word) (p : l.Part) (o : O) (left : ℕ) → IsChain words p (op o ∷ inner) → IsRefused m inner left → IsRefused l words left
  chain_refused_next words inner p o left i r = record {
    front = l.words_of p ++ (op o ∷ r.front);
    rest = r.rest;
    split = i.split ∙ (ap (λ ws. l.words_of p ++ (op o ∷ ws)) r.split ∙ sym (append_assoc (l.words_of p) (op o ∷ r.front) r.rest));
    place = r.place;
    part = more p o r.part;
    more = r.more;
    fits = c.more_fits p o r.part i.fits r.fits;
    begins = c.more_words p o r.part ∙ (ap (λ ws. l.words_of p ++ (op o ∷ ws)) r.begins ∙ sym (append_assoc (l.words_of p) (op o ∷ r.front) r.more));
    stops = λ q behind after f follows agree same.
        let same1 = same ∙ append_assoc (l.words_of p) (op o ∷ r.front) after in
        let g = goes_on words inner p o i q behind (r.front ++ after) f follows same1 in
        r.stops g.next (tail_words m.words_of op g.tail ++ behind) after g.fits g.follows agree g.same;
  }

  pub no_tail : (p q : l.Part) (tail : List (O × m.Part)) (rest behind after : List Word) → q ≡ chain more p tail → NoneNext op rest → Agree rest after → tail_words m.words_of op tail ++ behind ≡ after → q ≡ p
  no_tail p q [] rest behind after e none agree at = e
  no_tail p q (b ∷ tail) rest behind after e none agree at = elim (none b.0 ((m.words_of b.1 ++ tail_words m.words_of op tail) ++ behind) (subst (λ ws. Agree rest ws) (sym at) agree)) [ ]

  pub chain_end : (words rest : List Word) (p : l.Part) → IsChain words p rest → NoneNext op rest → IsRead l words p rest
  chain_end words rest p i none = record {
    fits = i.fits;
    split = i.split;
    only = λ q behind after f follows agree same.
        let t = i.leads q behind after f follows agree same in
        no_tail p q t.0 rest behind after t.1 none agree (behind_chain p t.0 q behind after t.1 same);
  }

-- A chain, and what is made of the values of its parts.
pub record Chaining : Type 1 where
  pub upper : Language
  pub lower : Language
  pub Operator : Type 0
  pub op : Operator → Word
  pub one : lower.Part → upper.Part
  pub more : upper.Part → Operator → lower.Part → upper.Part
  pub chained : IsChained upper lower Operator op one more
  pub Value : Type 0
  pub Low : Type 0
  pub value : upper.Part → Value
  pub low : lower.Part → Low
  pub start : Low → Value
  pub join : Value → Operator → Low → Value
  pub value_one : (q : lower.Part) → value (one q) ≡ start (low q)
  pub value_more : (p : upper.Part) (o : Operator) (q : lower.Part) → value (more p o q) ≡ join (value p) o (low q)

module _ (k : Chaining) where
  pub record SoFar (all : List Word) (v : k.Value) (rest : List Word) : Type 0 where
    pub part : k.upper.Part
    pub is : k.value part ≡ v
    pub chain : IsChain k.upper k.lower k.Operator k.op k.one k.more k.chained all part rest

  pub so_far_start : (all : List Word) (w : k.Low) (rest : List Word) → Gives k.lower k.low all w rest → SoFar all (k.start w) rest
  so_far_start all w rest g = record {
    part = k.one g.part;
    is = k.value_one g.part ∙ ap k.start g.value_is;
    chain = chain_start k.upper k.lower k.Operator k.op k.one k.more k.chained all rest g.part g.read;
  }

  pub so_far_step : (all inner rest : List Word) (v : k.Value) (o : k.Operator) (w : k.Low) → SoFar all v (k.op o ∷ inner) → Gives k.lower k.low inner w rest → SoFar all (k.join v o w) rest
  so_far_step all inner rest v o w i g = record {
    part = k.more i.part o g.part;
    is = k.value_more i.part o g.part ∙ (ap (λ v. k.join v o (k.low g.part)) i.is ∙ ap (λ w. k.join v o w) g.value_is);
    chain = chain_step k.upper k.lower k.Operator k.op k.one k.more k.chained all inner rest i.part o g.part i.chain g.read;
  }

  pub so_far_end : (all rest : List Word) (v : k.Value) → SoFar all v rest → NoneNext k.op rest → Gives k.upper k.value all v rest
  so_far_end all rest v i none = record {
    part = i.part;
    value_is = i.is;
    read = chain_end k.upper k.lower k.Operator k.op k.one k.more k.chained all rest i.part i.chain none;
  }

  pub so_far_fault : (all : List Word) (e : Refusal) → IsFault k.lower all e → IsFault k.upper all e
  so_far_fault all refusals.Memory a = tt
  so_far_fault all (refusals.Left left) a = chain_refused k.upper k.lower k.Operator k.op k.one k.more k.chained all left a

  pub so_far_fault_next : (all inner : List Word) (v : k.Value) (o : k.Operator) (e : Refusal) → SoFar all v (k.op o ∷ inner) → IsFault k.lower inner e → IsFault k.upper all e
  so_far_fault_next all inner v o refusals.Memory i a = tt
  so_far_fault_next all inner v o (refusals.Left left) i a = chain_refused_next k.upper k.lower k.Operator k.op k.one k.more k.chained all inner i.part o left i.chain a
