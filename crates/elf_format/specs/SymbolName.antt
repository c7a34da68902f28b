-- The name of a symbol with its version, as assemblers and linkers write it: `name@version` for a version that is not the
-- default one, `name@@version` for the default one (GNU as manual, .symver).
use Rattle.std.specs.Prelude.{ℕ, suc, Bool, true, false, ◌==◌, nat_lt, if◌then◌else◌, List, [], ◌∷◌, ◌++◌, take, drop, map, codes, Option, Some, None, position}
use Rattle.std.specs.Str.{is_utf8}

-- a name, its version, and whether that is the default one
pub record VersionedName : Type 0 where
  pub name : List ℕ
  pub version : Option (List ℕ)
  pub is_default : Bool

-- the byte `@`
abbrev pub at_sign : ℕ
at_sign = 0x40

-- a name before an `@`, by what follows that `@`
abbrev pub before_at_sign : List ℕ → List ℕ → VersionedName
before_at_sign name [] = record { name = name; version = Some []; is_default = false }
before_at_sign name (b ∷ after) =
    if b == at_sign then record { name = name; version = Some after; is_default = true }
    else record { name = name; version = Some (b ∷ after); is_default = false }

-- a name split at an `@`, or the default one without a version where there is none
abbrev pub split_at : List ℕ → Option ℕ → VersionedName
split_at bytes None = record { name = bytes; version = None; is_default = true }
split_at bytes (Some n) = before_at_sign (take n bytes) (drop (suc n) bytes)

-- a name split at its first `@`
unfoldable pub versioned_name : List ℕ → VersionedName
versioned_name bytes = split_at bytes (position (λ b. b == at_sign) bytes)

-- the bytes of a part as text: where they are no UTF-8, `?` stands for each byte beyond ASCII
unfoldable pub part_text : List ℕ → List ℕ
part_text bytes = if is_utf8 bytes then bytes else map (λ b. if nat_lt b 128 then b else 0x3f) bytes

-- a version as text, after its mark
abbrev pub version_part : Bool → Option (List ℕ) → List ℕ
version_part is_default None = []
version_part is_default (Some version) = (if is_default then codes "@@" else codes "@") ++ part_text version

-- a name with its version as text
unfoldable pub name_text : VersionedName → List ℕ
name_text n = part_text n.name ++ version_part n.is_default n.version
