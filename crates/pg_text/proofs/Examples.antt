-- The definitions, computed on small examples.
use Rattle.std.proofs.Common.{◌≡◌, [], ◌∷◌, ◌++◌, None, negsuc, codes, refl, inl, inr, arith}
use Rattle.std.specs.Fmt.{digits}
use Rattle.std.proofs.lemmas.List.Elements.{All-cons, All-nil}
use Rattle.hex.specs.Hex.{decode_pairs}
use Rattle.pg_msg.specs.declared.command.Command.TheVariants.{Address, Send}
use Rattle.pg_msg.specs.declared.message.Body.TheVariants.{Plain}
use Rattle.pg_msg.specs.declared.properties.Value.TheVariants.{Text, Whole}
use Rattle.pg_msg.specs.declared.reply.Reply.TheVariants as replies
use Rattle.pg_msg.specs.declared.reply.Refusal.TheVariants as refusals
use Rattle.pg_msg.specs.Names.{IsName, IsNameByte, IsNameStart}
use Rattle.pg_text.specs.Spelling.{HasWords, Spells}
use Rattle.pg_text.specs.Replies.{reply_line}
use Rattle.pg_text.specs.Texts.{SpellsHex, property_text}

-- the id of a message in a reply
sent_line : reply_line (replies.Sent (record { epoch = 2; number = 10 })) ≡ codes "sent 2-10" ++ (10 ∷ [])
unfolding digits
sent_line = refl

-- a filter without a reading
filter_line : reply_line (replies.No (refusals.Filter 12)) ≡ codes "no filter 12" ++ (10 ∷ [])
unfolding digits
filter_line = refl

-- a message without a body: the digits of no bytes
given_line : reply_line (replies.Given (record { id = record { epoch = 1; number = 2 }; dup = None; properties = []; body = Plain [] })) ≡ codes "msg 1-2 hex -" ++ (10 ∷ [])
unfolding digits
given_line = refl

-- a property below zero, and one with a quote in its text
whole_text : property_text (record { name = codes "k"; value = Whole (negsuc 0) }) ≡ codes " prop k -1"
unfolding digits
whole_text = refl

quote_text : property_text (record { name = codes "k"; value = Text (codes "it's") }) ≡ codes " prop k 'it''s'"
quote_text = refl

-- digits in both cases of letters spell one byte
lower_digits : SpellsHex (codes "6f") (111 ∷ [])
unfolding decode_pairs
lower_digits = refl

upper_digits : SpellsHex (codes "6F") (111 ∷ [])
unfolding decode_pairs
upper_digits = refl

letter_A : IsNameStart 65
letter_A = inl (omega arith, omega arith)

-- one letter is a name
name_A : IsName (65 ∷ [])
name_A = record {
  some = omega arith;
  short = omega arith;
  first = letter_A;
  each = All-cons IsNameByte 65 [] (inl letter_A) (All-nil IsNameByte);
}

-- a line that spells a command
address_spelled : Spells (codes "address A max 50 page 100 ahead 0 dup 0") (Address (65 ∷ []) 50 100 0 0)
unfolding digits
address_spelled = record {
  words = refl;
  in_range = (
    name_A,
    record {
      max_fits = omega arith;
      page_fits = (omega arith, omega arith);
      ahead_fits = omega arith;
      dup_fits = omega arith;
    },
  );
}

-- two lines of one command: its body is the byte 120
body_words : HasWords (codes "send A body x") (Send (65 ∷ []) None None [] (120 ∷ []))
body_words = record { id_part = []; is_id = refl; body_part = codes " body x"; is_body = inl refl; bytes = refl }

hex_words : HasWords (codes "send A hex 78") (Send (65 ∷ []) None None [] (120 ∷ []))
unfolding decode_pairs
hex_words = record {
  id_part = [];
  is_id = refl;
  body_part = codes " hex 78";
  is_body = inr (record { digits = codes "78"; spelled = refl; bytes = refl });
  bytes = refl;
}
