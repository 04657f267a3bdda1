use Rattle.std.proofs.Common.{List, ℕ, ◌≡◌, ◌∙◌, true, refl, subst}
use Rattle.std.specs.Prelude.{is_ok}
use Rattle.pg_disk.specs.Calls.{Changes, Emits}
use Rattle.pg_disk.specs.Image.{LeavesPrefix}
use Rattle.pg_disk.specs.Moments.{Within}
use Rattle.pg_text.specs.Replies.{reply_line}
use Rattle.pg_engine.specs.Executed.{state_of}
use Rattle.pg_run.proofs.AnswerLemmas.{answers_err, answers_sink, of_residual, gave_up, executed, interrupted, half_told, answered}
use Rattle.pg_run.proofs.answer.answer.Goals as goal

pub returns-in_err-engine-clause-answers : goal.returns-in_err-engine-clause-answers
returns-in_err-engine-clause-answers g c honest =
    let left = gave_up g.S.Disk c.args.site.now (state_of c.args.engine) c.args.line.now honest c.args.engine (g.met.S.Disk.only_now c.args.site.now) refl (c.requires honest) c.exec_line.new.disk _
    (c.in_err-engine.ensures.executes honest) in
    answers_err g.S.Disk c.args.site.now (state_of c.args.engine) c.args.line.now honest c.exec_line.new.disk _ c.from_residual.ensures.0 left.0 left.1

pub returns-in_err-text-clause-answers : goal.returns-in_err-text-clause-answers
returns-in_err-text-clause-answers g c honest =
    let done = executed g.S.Disk c.args.site.now (state_of c.args.engine) c.args.line.now honest c.exec_line.new.disk c.in_ok-engine.engine c.in_ok-engine.reply (c.in_ok-engine.ensures.executes honest) in
    let left = interrupted g.S.Disk c.args.site.now (state_of c.args.engine) c.args.line.now honest done.item done.reads c.in_ok-engine.reply done.next done.step c.exec_line.new.disk done.moments done.told
    done.stands.kept in
    answers_err g.S.Disk c.args.site.now (state_of c.args.engine) c.args.line.now honest c.exec_line.new.disk _ c.from_residual-in_err-text.ensures.0 left.0 left.1

pub returns-in_err-tell-clause-answers : goal.returns-in_err-tell-clause-answers
returns-in_err-tell-clause-answers g c honest =
    let done = executed g.S.Disk c.args.site.now (state_of c.args.engine) c.args.line.now honest c.exec_line.new.disk c.in_ok-engine.engine c.in_ok-engine.reply (c.in_ok-engine.ensures.executes honest) in
    let same : c.as_slice.result.now ≡ reply_line c.in_ok-engine.reply = c.as_slice.ensures.value ∙ c.in_ok-text.ensures in
    answers_sink g.S.Disk c.args.site.now (state_of c.args.engine) c.args.line.now honest c.tell.new.site _ (of_residual c.from_residual-in_err-tell.result c.in_err-tell.field-0.0 _ c.from_residual-in_err-tell.ensures.0 c.from_residual-in_err-tell.ensures.1 c.in_err-tell.ensures.only_sink)
    (half_told g.S.Disk c.args.site.now (state_of c.args.engine) c.args.line.now honest done.item done.reads c.in_ok-engine.reply done.next done.step c.exec_line.new.disk done.moments done.told
    c.in_ok-engine.engine done.stands done.stays c.tell.new.site (subst (λ (l : List ℕ). Within g.S.Disk c.exec_line.new.disk c.tell.new.site (LeavesPrefix l)) same c.tell.ensures.any_moment)
    _ (subst (λ (l : List ℕ). Changes (g.S.Disk.tells c.exec_line.new.disk) (g.S.Disk.tells c.tell.new.site) (Emits l (is_ok c.tell.result))) same c.tell.ensures.told))

pub returns-clause-answers : goal.returns-clause-answers
returns-clause-answers g c honest =
    let done = executed g.S.Disk c.args.site.now (state_of c.args.engine) c.args.line.now honest c.exec_line.new.disk c.in_ok-engine.engine c.in_ok-engine.reply (c.in_ok-engine.ensures.executes honest) in
    let same : c.as_slice.result.now ≡ reply_line c.in_ok-engine.reply = c.as_slice.ensures.value ∙ c.in_ok-text.ensures in
    answered g.S.Disk c.args.site.now (state_of c.args.engine) c.args.line.now honest done.item done.reads c.in_ok-engine.reply done.next done.step c.exec_line.new.disk done.moments done.told
    c.in_ok-engine.engine done.stands done.stays c.tell.new.site (subst (λ (l : List ℕ). Within g.S.Disk c.exec_line.new.disk c.tell.new.site (LeavesPrefix l)) same c.tell.ensures.any_moment)
    done.pages (subst (λ (l : List ℕ). Changes (g.S.Disk.tells c.exec_line.new.disk) (g.S.Disk.tells c.tell.new.site) (Emits l true)) same c.in_ok-tell.ensures.told)
