-- How a record is shown.
use Rattle.std.specs.Prelude.{ℕ, List, ◌∷◌, ◌++◌}
use Rattle.std.specs.Fmt.{decimal}
use Rattle.octets.specs.Octets.{octets}
use Rattle.octets.specs.Texts.{pair_text, check_text, id_text}
use Rattle.record.specs.declared.record.Record.{Record}
use Rattle.record.specs.Forms.{number_of, lifetime_of, check_of, form_of, form_letter}

-- a number in eight hexadecimal digits
abbrev pub number_text : ℕ → List ℕ
number_text n = pair_text (octets 4 n) 0 ++ pair_text (octets 4 n) 2

-- a record: 0000.0000.0001.00-00 00000001 1200 F606 L, with spaces (32)
abbrev pub record_text : Record → List ℕ
record_text x =
    id_text x.id
    ++ 32 ∷ (number_text (number_of x) ++ 32 ∷ (decimal (lifetime_of x) ++ 32 ∷ (check_text (check_of x) ++ 32 ∷ form_letter (form_of x))))
