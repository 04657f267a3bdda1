use Rattle.std.proofs.Common.{refl, subst}
use Rattle.pg_msg.specs.declared.command.Command.{Command}
use Rattle.pg_plain.specs.Unpaged.{IsServable}
use Rattle.pg_plain.proofs.plain.PlainBroker.step.Goals as goal

pub add_queue-requires : goal.add_queue-requires
add_queue-requires c =
    (subst (λ (one : Command). IsServable c.args.self one) c.in-Queue.is c.requires).left c.in-Queue.name c.in-Queue.address c.in-Queue.filter refl

pub send-requires : goal.send-requires
send-requires c = (subst (λ (one : Command). IsServable c.args.self one) c.in-Send.is c.requires).in_range.3
