-- A word is the digits of bytes exactly where it is an even number of hexadecimal digits.
use Rattle.std.proofs.Common.{◌≡◌, ◌↔◌, ◌%◌, ℕ, Bool, true, false, List, length, Result, Ok, Err, IsTrue, refl, sym, ap}
use Rattle.std.proofs.lemmas.Bool.{false≢true}
use Rattle.std.specs.List.{AllPass}
use Rattle.std.specs.Result.{is_ok}
use Rattle.hex.specs.declared.error.FromHexError.{FromHexError}
use Rattle.hex.specs.Hex.{decode_of, is_hex_digit}
use Rattle.hex.proofs.HexLemmas.{decode_of-ok, decode_of-digits}

refused : (word : List ℕ) (r : Result (List ℕ) FromHexError) → decode_of word ≡ r → ((length word % 2 ≡ 0) × AllPass is_hex_digit word → ⊥) → false ≡ is_ok r
refused word (Err error) is never = refl
refused word (Ok bytes) is never = let parts = decode_of-ok word bytes is in absurd (never (parts.0, parts.1))

pub tested : (word : List ℕ) (b : Bool) → IsTrue b ↔ ((length word % 2 ≡ 0) × AllPass is_hex_digit word) → b ≡ is_ok (decode_of word)
tested word true test = let parts = test.0 refl in let found = decode_of-digits word parts.0 parts.1 in sym (ap is_ok found.1)
tested word false test = refused word (decode_of word) refl (λ parts. false≢true (test.1 parts))
