-- The filter of a queue that is asked for, as a tree and as the text that is kept.
use Rattle.std.proofs.Common.{refl, sym, subst, ℕ, List, [], Option, Some, None, arith}
use Rattle.std.specs.Prelude.{IfSome}
use Rattle.std.proofs.lemmas.Str.{IsUtf8-nil}
use Rattle.pg_msg.specs.Commands.{IsFilterText}
use Rattle.pg_parse.specs.declared.tree.Tree.{Tree}
use Rattle.pg_parse.specs.FilterTexts.{ReadsAs}
use Rattle.pg_model.specs.Routing.{HasReading, text_of}
use Rattle.pg_engine.specs.Filters.{IsTreeOf}

-- it has a reading
pub has_reading : (filter : Option (List ℕ)) (tree : Option Tree) → IsTreeOf filter tree → HasReading filter
has_reading None tree reads = tt
has_reading (Some text) None none = absurd none
has_reading (Some text) (Some tree) reads = (tree, reads)

-- its text is read as the tree
pub text_reads : (filter : Option (List ℕ)) (tree : Option Tree) → IsTreeOf filter tree → ReadsAs (text_of filter) tree
text_reads None tree none = subst (λ (t : Option Tree). ReadsAs [] t) (sym none) refl
text_reads (Some text) None none = absurd none
text_reads (Some text) (Some tree) reads = reads

-- and it is a text that may be kept
pub text_fits : (filter : Option (List ℕ)) → IfSome filter IsFilterText → IsFilterText (text_of filter)
text_fits None some = (IsUtf8-nil, omega arith)
text_fits (Some text) fits = fits
