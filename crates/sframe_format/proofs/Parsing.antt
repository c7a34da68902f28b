-- The fields of a header have one result of parsing.
use Rattle.std.proofs.Common.{◌≡◌, Result, Ok, Err, ap, sym, ◌∙◌}
use Rattle.sframe_format.specs.declared.header.Header.{Header}
use Rattle.sframe_format.specs.declared.header.SframeError.{SframeError}
use Rattle.sframe_format.specs.declared.header.SframeError.TheVariants.{BadMagicBytes, UnsupportedVersion}
use Rattle.sframe_format.specs.Fields.{IsParsedHeader}

pub one_parsed : (h : Header) (r s : Result Header SframeError) → IsParsedHeader h r → IsParsedHeader h s → r ≡ s
one_parsed h (Ok p) (Ok q) a b = ap (λ x. Ok x) (a.0 ∙ sym b.0)
one_parsed h (Ok p) (Err (BadMagicBytes v)) a b = absurd (b.1 a.1)
one_parsed h (Ok p) (Err (UnsupportedVersion v)) a b = absurd (b.2 a.2)
one_parsed h (Err (BadMagicBytes v)) (Ok q) a b = absurd (a.1 b.1)
one_parsed h (Err (BadMagicBytes v)) (Err (BadMagicBytes w)) a b = ap (λ x. Err (BadMagicBytes x)) (a.0 ∙ sym b.0)
one_parsed h (Err (BadMagicBytes v)) (Err (UnsupportedVersion w)) a b = absurd (a.1 b.1)
one_parsed h (Err (UnsupportedVersion v)) (Ok q) a b = absurd (a.2 b.2)
one_parsed h (Err (UnsupportedVersion v)) (Err (BadMagicBytes w)) a b = absurd (b.1 a.1)
one_parsed h (Err (UnsupportedVersion v)) (Err (UnsupportedVersion w)) a b = ap (λ x. Err (UnsupportedVersion x)) (a.0 ∙ sym b.0)
