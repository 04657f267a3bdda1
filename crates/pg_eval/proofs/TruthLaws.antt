-- The truth of filters by their parts.
use Rattle.std.proofs.Common.{◌≡◌, List, refl, sym, ◌∙◌, ap, ap₂}
use Rattle.pg_msg.specs.declared.properties.Property.{Property}
use Rattle.pg_parse.specs.declared.op.Op.{Op}
use Rattle.pg_parse.specs.declared.op.Op.TheVariants.{LessEqual, GreaterEqual}
use Rattle.pg_parse.specs.declared.tree.Tree.{Tree}
use Rattle.pg_parse.specs.declared.tree.Tree.TheVariants.{And, Between, Compare, Not, Or, rolls-And, rolls-Between, rolls-Compare, rolls-Not, rolls-Or}
use Rattle.pg_parse.specs.declared.tree.Tree.TheOpen.{Tree-F}
use Rattle.pg_parse.specs.declared.tree.Tree.TheFolds.{fold-roll-Tree}
use Rattle.pg_eval.specs.declared.tri.Tri.{Tri}
use Rattle.pg_eval.specs.declared.tri.Tri.TheVariants.{Yes, No, Unknown}
use Rattle.pg_eval.specs.Tables.{not_of, and_of, or_of}
use Rattle.pg_eval.specs.Values.{Value, tri_of, value_of, compare, between}
use Rattle.pg_eval.specs.Truth.{value, value_from, truth_of}

tri_value : (t : Tri) → tri_of (value_of t) ≡ t
tri_value Yes = refl
tri_value No = refl
tri_value Unknown = refl

not_not : (t : Tri) → not_of (not_of t) ≡ t
not_not Yes = refl
not_not No = refl
not_not Unknown = refl

not_and : (a b : Tri) → not_of (and_of a b) ≡ or_of (not_of a) (not_of b)
not_and Yes Yes = refl
not_and Yes No = refl
not_and Yes Unknown = refl
not_and No Yes = refl
not_and No No = refl
not_and No Unknown = refl
not_and Unknown Yes = refl
not_and Unknown No = refl
not_and Unknown Unknown = refl

not_or : (a b : Tri) → not_of (or_of a b) ≡ and_of (not_of a) (not_of b)
not_or Yes Yes = refl
not_or Yes No = refl
not_or Yes Unknown = refl
not_or No Yes = refl
not_or No No = refl
not_or No Unknown = refl
not_or Unknown Yes = refl
not_or Unknown No = refl
not_or Unknown Unknown = refl

module _ (properties : List Property) where
  truth_not : (a : Tree) → truth_of properties (Not a) ≡ not_of (truth_of properties a)
  unfolding truth_of
  truth_not a =
      ap tri_of (ap (value properties) (sym (rolls-Not a)) ∙ fold-roll-Tree Value (value_from properties) (Tree-F.Not a)) ∙ tri_value (not_of (truth_of properties a))

  truth_and : (a b : Tree) → truth_of properties (And a b) ≡ and_of (truth_of properties a) (truth_of properties b)
  unfolding truth_of
  truth_and a b =
      ap tri_of (ap (value properties) (sym (rolls-And a b)) ∙ fold-roll-Tree Value (value_from properties) (Tree-F.And a b))
      ∙ tri_value (and_of (truth_of properties a) (truth_of properties b))

  truth_or : (a b : Tree) → truth_of properties (Or a b) ≡ or_of (truth_of properties a) (truth_of properties b)
  unfolding truth_of
  truth_or a b =
      ap tri_of (ap (value properties) (sym (rolls-Or a b)) ∙ fold-roll-Tree Value (value_from properties) (Tree-F.Or a b))
      ∙ tri_value (or_of (truth_of properties a) (truth_of properties b))

  truth_compare : (op : Op) (a b : Tree) → truth_of properties (Compare op a b) ≡ compare op (value properties a) (value properties b)
  unfolding truth_of
  truth_compare op a b =
      ap tri_of (ap (value properties) (sym (rolls-Compare op a b)) ∙ fold-roll-Tree Value (value_from properties) (Tree-F.Compare op a b))
      ∙ tri_value (compare op (value properties a) (value properties b))

  truth_between : (x low high : Tree) → truth_of properties (Between x low high) ≡ between (value properties x) (value properties low) (value properties high)
  unfolding truth_of
  truth_between x low high =
      ap tri_of (ap (value properties) (sym (rolls-Between x low high)) ∙ fold-roll-Tree Value (value_from properties) (Tree-F.Between x low high))
      ∙ tri_value (between (value properties x) (value properties low) (value properties high))

  pub not_twice : (a : Tree) → truth_of properties (Not (Not a)) ≡ truth_of properties a
  not_twice a = truth_not (Not a) ∙ (ap not_of (truth_not a) ∙ not_not (truth_of properties a))

  pub not_of_and : (a b : Tree) → truth_of properties (Not (And a b)) ≡ truth_of properties (Or (Not a) (Not b))
  not_of_and a b =
      truth_not (And a b) ∙ (ap not_of (truth_and a b) ∙ (not_and (truth_of properties a) (truth_of properties b)
      ∙ sym (truth_or (Not a) (Not b) ∙ ap₂ or_of (truth_not a) (truth_not b))))

  pub not_of_or : (a b : Tree) → truth_of properties (Not (Or a b)) ≡ truth_of properties (And (Not a) (Not b))
  not_of_or a b =
      truth_not (Or a b) ∙ (ap not_of (truth_or a b) ∙ (not_or (truth_of properties a) (truth_of properties b)
      ∙ sym (truth_and (Not a) (Not b) ∙ ap₂ and_of (truth_not a) (truth_not b))))

  pub between_is_two : (x low high : Tree) → truth_of properties (Between x low high)
      ≡ truth_of properties (And (Compare GreaterEqual x low) (Compare LessEqual x high))
  between_is_two x low high =
      truth_between x low high
      ∙ sym (truth_and (Compare GreaterEqual x low) (Compare LessEqual x high)
      ∙ ap₂ and_of (truth_compare GreaterEqual x low) (truth_compare LessEqual x high))
