-- Entries of the dynamic section: the first word of one, and the last with a tag.
use Rattle.std.proofs.Common.{◌≡◌, ℕ, Bool, true, false, ◌==◌, List, ◌∷◌, take, Option, Some, None, refl, ap, ◌∙◌, arith}
use Rattle.std.specs.Prelude.{if◌then◌else◌, option_map}
use Rattle.std.specs.Option.{option_or}
use Rattle.elf_format.specs.Bytes.{get, le}
use Rattle.elf_format.specs.Class.{Class, class32, class64, word_at, d_tag, d_value}
use Rattle.elf_format.specs.Dynamic.{last_value}
use Rattle.elf_format.specs.Symbol.{last_that}
use Rattle.elf_format.proofs.NumberLemmas.{number_in_part}

tag_by_class : (c : Class) (entry : List ℕ) → le (take (word_at c 0 0).width entry) 0 (word_at c 0 0).width ≡ get (d_tag c) entry
tag_by_class class32 entry = number_in_part entry 0 4 0 4 (omega arith)
tag_by_class class64 entry = number_in_part entry 0 8 0 8 (omega arith)

-- the tag is the first word of an entry
pub tag_in_front : (c : Class) (size : ℕ) (entry : List ℕ) → size ≡ (word_at c 0 0).width → le (take size entry) 0 size ≡ get (d_tag c) entry
tag_in_front c size entry e = ap (λ n. le (take n entry) 0 n) e ∙ tag_by_class c entry

mapped_or : {X Y : Type 0} (f : X → Y) (a : Option X) (t : Bool) (x : X) → option_map f (option_or a (if t then Some x else None)) ≡ option_or (option_map f a) (if t then Some (f x) else None)
mapped_or f (Some y) t x = refl
mapped_or f None true x = refl
mapped_or f None false x = refl

-- an entry before others counts where none of them has the tag
pub last_after : (c : Class) (tag : ℕ) (entry : List ℕ) (entries : List (List ℕ))
    → last_value c tag (entry ∷ entries) ≡ option_or (last_value c tag entries) (if get (d_tag c) entry == tag then Some (get (d_value c) entry) else None)
last_after c tag entry entries = mapped_or (get (d_value c)) (last_that (λ e. get (d_tag c) e == tag) entries) (get (d_tag c) entry == tag) entry

pub nothing_after : {X : Type 0} (a : Option X) → option_or a None ≡ a
nothing_after None = refl
nothing_after (Some x) = refl
