use Rattle.std.proofs.Common.{◌+◌, List, [], ℕ, sym, refl, subst, arith}
use Rattle.pg_lex.specs.declared.token.Token.{Token}
use Rattle.pg_lex.proofs.ReadSoFar.{ReadSoFar, so_far_start, so_far_step, so_far_end}
use Rattle.pg_lex.proofs.TokenLaws.{each_in}
use Rattle.pg_lex.proofs.lexing.tokens.Goals as goal

pub loop-from-init : goal.loop-from-init
loop-from-init c =
    let place = c.after_blanks-from.result in
    let start = so_far_start c.as_bytes-bytes.result.now place c.as_bytes-bytes.ensures.utf8 c.after_blanks-from.ensures.blanks c.after_blanks-from.ensures.within c.after_blanks-from.ensures.next in
    subst (λ (ts : List Token). ReadSoFar c.args.filter.now ts place) (sym c.new-tokens.ensures.items) (subst (λ (f : List ℕ). ReadSoFar f [] place) c.as_bytes-bytes.ensures.value start)

pub loop-from-preserved : goal.loop-from-preserved
loop-from-preserved c =
    let bytes = c.as_bytes-bytes.result.now in
    let same = c.as_bytes-bytes.ensures.value in
    let from = c.loop-from.from in
    let n = c.first_token-kind.result.1 in
    let t : Token = record { kind = c.first_token-kind.result.0; from = from; to = from + n } in
    let blanks = c.after_blanks-from-in-loop-from.ensures in
    let before = subst (λ (f : List ℕ). ReadSoFar f c.loop-from.tokens.items from) (sym same) c.loop-from.invariant in
    subst (λ (f : List ℕ). ReadSoFar f c.push.new.self.items c.after_blanks-from-in-loop-from.result) same
    (so_far_step bytes c.loop-from.tokens.items c.push.new.self.items t n c.after_blanks-from-in-loop-from.result c.as_bytes-bytes.ensures.utf8 before refl c.first_token-kind.ensures.within c.first_token-kind.ensures.token c.in_ok-push.ensures.items blanks.blanks blanks.within blanks.next)

pub returns-clause-all : goal.returns-clause-all
returns-clause-all c = so_far_end c.args.filter.now c.loop-from.tokens.items c.loop-from.from c.loop-from.invariant (omega arith)

pub returns-clause-each : goal.returns-clause-each
returns-clause-each c = each_in c.args.filter.now c.loop-from.tokens.items (so_far_end c.args.filter.now c.loop-from.tokens.items c.loop-from.from c.loop-from.invariant (omega arith))
