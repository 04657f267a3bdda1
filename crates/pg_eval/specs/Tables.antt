-- Three truth values.
use Rattle.std.specs.Prelude.{Bool, true, false}
use Rattle.pg_eval.specs.declared.tri.Tri.{Tri}
use Rattle.pg_eval.specs.declared.tri.Tri.TheVariants.{Yes, No, Unknown}

abbrev pub known : Bool → Tri
known true = Yes
known false = No

abbrev pub not_of : Tri → Tri
not_of Yes = No
not_of No = Yes
not_of Unknown = Unknown

abbrev pub and_of : Tri → Tri → Tri
and_of Yes Yes = Yes
and_of Yes No = No
and_of Yes Unknown = Unknown
and_of No Yes = No
and_of No No = No
and_of No Unknown = No
and_of Unknown Yes = Unknown
and_of Unknown No = No
and_of Unknown Unknown = Unknown

abbrev pub or_of : Tri → Tri → Tri
or_of Yes Yes = Yes
or_of Yes No = Yes
or_of Yes Unknown = Yes
or_of No Yes = Yes
or_of No No = No
or_of No Unknown = Unknown
or_of Unknown Yes = Yes
or_of Unknown No = Unknown
or_of Unknown Unknown = Unknown
