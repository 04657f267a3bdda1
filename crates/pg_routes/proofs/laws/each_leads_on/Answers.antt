use Rattle.pg_model.specs.Steps.{Acts, Takes, asked}
use Rattle.pg_routes.proofs.Stepping.{Leads, acts_lead, takes_lead}
use Rattle.pg_routes.proofs.laws.each_leads_on.Goals as goal

pub returns-clause-acts : goal.returns-clause-acts
returns-clause-acts c = λ view s action valid decided.
    let leads : Leads (Acts view s action) = acts_lead view s action valid decided in (leads.reply, leads.state, leads.goes)

pub returns-clause-step : goal.returns-clause-step
returns-clause-step c = λ view s item valid decided.
    let leads : Leads (Takes view s (asked item)) = takes_lead view s (asked item) valid decided in (leads.reply, leads.state, leads.goes)
