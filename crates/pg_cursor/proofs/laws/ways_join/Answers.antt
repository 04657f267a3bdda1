use Rattle.pg_cursor.proofs.Along.{ways_join}
use Rattle.pg_cursor.proofs.OneWay.{one_way}
use Rattle.pg_cursor.proofs.laws.ways_join.Goals as goal

pub returns-clause-joins : goal.returns-clause-joins
returns-clause-joins c = ways_join

pub returns-clause-one_way : goal.returns-clause-one_way
returns-clause-one_way c = one_way
