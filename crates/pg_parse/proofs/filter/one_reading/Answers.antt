use Rattle.pg_parse.proofs.FilterLaws.{filter_tree, filter_offset, filter_either}
use Rattle.pg_parse.proofs.filter.one_reading.Goals as goal

pub returns-clause-tree : goal.returns-clause-tree
returns-clause-tree c = filter_tree

pub returns-clause-offset : goal.returns-clause-offset
returns-clause-offset c = filter_offset

pub returns-clause-either : goal.returns-clause-either
returns-clause-either c = filter_either
