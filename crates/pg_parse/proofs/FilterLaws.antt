-- A text has one tree, or one offset at which it is refused.
use Rattle.std.proofs.Common.{◌≡◌, ◌≤◌, ◌<◌, ℕ, suc, List, ◌++◌, length, take, drop, sym, ◌∙◌, ap, subst, append_assoc, append-nil, [], arith}
use Rattle.std.proofs.lemmas.List.{take-append-drop, take-take, take_all}
use Rattle.pg_lex.specs.declared.token.Token.{Token}
use Rattle.pg_lex.proofs.TokenLaws.{tokens_one}
use Rattle.pg_parse.specs.declared.word.Word.{Word}
use Rattle.pg_parse.specs.declared.tree.Tree.{Tree}
use Rattle.pg_parse.specs.Grammar.{ReadsWords, Begins, IsRefusedAt}
use Rattle.pg_parse.specs.Filters.{Say, HasWords, Reads, offset_of, IsBadAt}
use Rattle.pg_parse.proofs.Words.{say_one, reads_said}
use Rattle.pg_parse.proofs.Unambiguous.{one_tree}

-- what a front of the words begins, its own fronts begin
pub begins_front : (all : List Word) (m n : ℕ) → m ≤ n → Begins (take n all) → Begins (take m all)
begins_front all m n within b =
    let split : take m all ++ drop m (take n all) ≡ take n all = ap (λ ws. ws ++ drop m (take n all)) (sym (take-take m n all within)) ∙ take-append-drop m (take n all) in
    (drop m (take n all) ++ b.0, b.1, subst (λ ws. ReadsWords ws b.1) (ap (λ ws. ws ++ b.0) (sym split) ∙ append_assoc (take m all) (drop m (take n all)) b.0) b.2)

pub not_before : (all : List Word) (m n : ℕ) → IsRefusedAt all m → IsRefusedAt all n → m < n → ⊥
not_before all m n a b less =
    let within : n ≤ length all = b.within in
    a.stops (omega arith) (begins_front all (suc m) n (omega arith) b.begins)

pub one_place : (all : List Word) (m n : ℕ) → IsRefusedAt all m → IsRefusedAt all n → m ≡ n
one_place all m n a b =
    let up = not_before all m n a b in
    let down = not_before all n m b a in omega (arith, up, down)

pub reads_begins : (all : List Word) (tree : Tree) → ReadsWords all tree → Begins all
reads_begins all tree r = ([], tree, subst (λ ws. ReadsWords ws tree) (sym (append-nil all)) r)

pub never_both : (all : List Word) (tree : Tree) (place : ℕ) → ReadsWords all tree → IsRefusedAt all place → ⊥
never_both all tree place r a =
    let some : suc place ≤ length all → ⊥ = λ within. a.stops within (begins_front all (suc place) (length all) within (subst Begins (sym (take_all (length all) all (omega arith))) (reads_begins all tree r))) in
    let within : place ≤ length all = a.within in
    a.unfinished (omega (arith, some)) tree r

pub same_tokens : (filter : List ℕ) (s t : List Token) (v w : List Word) → HasWords filter s v → HasWords filter t w → s ≡ t
same_tokens filter s t v w a b = tokens_one filter s t a.are b.are

pub same_words : (filter : List ℕ) (s t : List Token) (v w : List Word) → HasWords filter s v → HasWords filter t w → v ≡ w
same_words filter s t v w a b = say_one filter t v w (subst (λ ts. Say filter ts v) (same_tokens filter s t v w a b) a.say) b.say

pub filter_tree : (filter : List ℕ) (a b : Tree) → Reads filter a → Reads filter b → a ≡ b
filter_tree filter a b r s = one_tree s.said a b (reads_said filter s.tokens s.said a s.has.are s.has.say r) s.reads

pub filter_offset : (filter : List ℕ) (m n : ℕ) → IsBadAt filter m → IsBadAt filter n → m ≡ n
filter_offset filter m n a b =
    let tokens_same = same_tokens filter a.tokens b.tokens a.said b.said a.has b.has in
    let said_same = same_words filter a.tokens b.tokens a.said b.said a.has b.has in
    let place_same : a.place ≡ b.place = one_place b.said a.place b.place (subst (λ ws. IsRefusedAt ws a.place) said_same a.refused) b.refused in
    a.offset ∙ (ap (λ ts. offset_of filter ts a.place) tokens_same ∙ (ap (λ place. offset_of filter b.tokens place) place_same ∙ sym b.offset))

pub filter_either : (filter : List ℕ) (tree : Tree) (at : ℕ) → Reads filter tree → IsBadAt filter at → ⊥
filter_either filter tree at r b = never_both b.said tree b.place (reads_said filter b.tokens b.said tree b.has.are b.has.say r) b.refused
