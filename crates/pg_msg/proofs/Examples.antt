-- The examples of the documents, computed.
use Rattle.std.proofs.Common.{◌≡◌, [], ◌∷◌, Some, None, true, false, refl}
use Rattle.std.specs.Prelude.{codes, negsuc}
use Rattle.pg_msg.specs.declared.message.Body.TheVariants.{Plain, Large}
use Rattle.pg_msg.specs.declared.message.Message.{Message}
use Rattle.pg_msg.specs.declared.properties.Value.TheVariants.{Text, Whole, Truth}
use Rattle.pg_msg.specs.Messages.{property_bytes, message_bytes, weight_of}
use Rattle.pg_msg.specs.Reading.{is_property_name, are_distinct}

large : Message
large = record { id = record { epoch = 1; number = 1 }; dup = None; properties = []; body = Large 7 }

large_spelled : message_bytes large ≡ 0 ∷ 0 ∷ 0 ∷ 1 ∷ 0 ∷ 0 ∷ 0 ∷ 1 ∷ 2 ∷ 0 ∷ 0 ∷ 0 ∷ 0 ∷ 0 ∷ 0 ∷ 0 ∷ 0 ∷ 0 ∷ 7 ∷ []
unfolding large
large_spelled = refl

large_weighs : weight_of large ≡ 19
unfolding large
large_weighs = refl

plain_weighs : weight_of (record { id = record { epoch = 1; number = 1 }; dup = None; properties = []; body = Plain (9 ∷ 9 ∷ 9 ∷ []) }) ≡ 18
plain_weighs = refl

truth_spelled : property_bytes (record { name = codes "n"; value = Truth false }) ≡ 1 ∷ 110 ∷ 3 ∷ 0 ∷ []
truth_spelled = refl

-- the message of the formats with a duplicate id and properties
whole : Message
whole = record {
  id = record { epoch = 1; number = 2 };
  dup = Some (10 ∷ []);
  properties = record { name = codes "n"; value = Whole (negsuc 0) } ∷ record { name = codes "s"; value = Text (195 ∷ 169 ∷ []) } ∷ [];
  body = Plain (codes "x");
}

whole_spelled : message_bytes whole ≡ 0 ∷ 0 ∷ 0 ∷ 1 ∷ 0 ∷ 0 ∷ 0 ∷ 2 ∷ 1 ∷ 1 ∷ 10 ∷ 2 ∷ 1 ∷ 110 ∷ 2 ∷ 255 ∷ 255 ∷ 255 ∷ 255 ∷ 255 ∷ 255 ∷ 255 ∷ 255 ∷ 1 ∷ 115 ∷ 1 ∷ 0 ∷ 2 ∷ 195 ∷ 169 ∷ 0 ∷ 0 ∷ 0 ∷ 1 ∷ 120 ∷ []
unfolding whole
whole_spelled = refl

whole_weighs : weight_of whole ≡ 35
unfolding whole
whole_weighs = refl

names_of_properties : (is_property_name (codes "$_9") ≡ true) × (is_property_name (codes "ands") ≡ true)
unfolding is_property_name
names_of_properties = (refl, refl)

no_names_of_properties : (is_property_name (codes "9n") ≡ false) × (is_property_name (codes "n.n") ≡ false) × (is_property_name (codes "And") ≡ false) × (is_property_name [] ≡ false)
unfolding is_property_name
no_names_of_properties = (refl, refl, refl, refl)

names_that_differ : (are_distinct (codes "n" ∷ codes "m" ∷ codes "n" ∷ []) ≡ false) × (are_distinct (codes "n" ∷ codes "N" ∷ []) ≡ true)
names_that_differ = (refl, refl)
