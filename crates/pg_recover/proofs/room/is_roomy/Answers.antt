use Rattle.std.proofs.Common.{refl}
use Rattle.pg_recover.proofs.RoomLemmas.{room_tells}
use Rattle.pg_recover.proofs.room.is_roomy.Goals as goal

pub returns : goal.returns
returns c =
    room_tells c.args.durable.now c.as_slice-addresses.result.now c.args.durable.now.journaled c.in_ok-sums.sums.items c.deref.result.now _ c.requires c.as_slice-addresses.ensures refl c.deref.ensures.value
    c.in_ok-sums.ensures.count c.in_ok-sums.ensures.each c.are_light.ensures
