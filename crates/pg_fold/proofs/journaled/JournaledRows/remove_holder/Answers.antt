use Rattle.pg_fold.proofs.journaled.JournaledRows.remove_holder.Goals as goal

pub invariant_of-self : goal.invariant_of-self
invariant_of-self c =
    let inside = c.self.inside in
    record {
      ordered = c.release_all.ensures.ordered;
      below = c.release_all.ensures.below inside.next c.self.invariant.below;
      told = c.keep_told.ensures (c.release_all.ensures.told inside.numbers c.self.invariant.told);
    }
