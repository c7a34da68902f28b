-- A section has one split, or is refused for one cause.
use Rattle.std.proofs.Common.{◌≡◌, ◌≢◌, ℕ, List, Result, Ok, Err, refl, sym, ap, ◌∙◌, subst}
use Rattle.std.specs.List.{filter_map}
use Rattle.elf_format.specs.declared.crel.Crel.{Crel}
use Rattle.elf_format.specs.declared.crel.CrelError.{CrelError}
use Rattle.elf_format.specs.declared.error.ElfError.{ElfError}
use Rattle.elf_format.specs.Crel.{Listing, all_ok}
use Rattle.elf_frames.specs.declared.error.FrameError.{FrameError}
use Rattle.elf_frames.specs.declared.error.FrameError.TheVariants.{BadEntry, BadSymbol, Elf, NoMemory}
use Rattle.elf_frames.specs.Entries.{rest_at}
use Rattle.elf_frames.specs.Frames.{Cie, Frame, FrameLists}
use Rattle.elf_frames.specs.Taken.{FrameInput, cie_of, frame_of}
use Rattle.elf_frames.specs.Split.{IsSplit, Splits, frame_input}
use Rattle.elf_frames.specs.Cause.{EndsAfter, LacksSymbol, IsFrameCause, IsFrameMemory}
use Rattle.elf_frames.specs.Laws.{SplitIsOne, FormsAgree}
use Rattle.elf_frames.proofs.Tiling.{ended, too_long, lacking, TooLong, Lacking, SameEntries, same_entries}

lists_are : (c d : List Cie) (f g : List Frame) (m n : ℕ) → c ≡ d → f ≡ g → m ≡ n → (let a : FrameLists = record { cies = c; frames = f; rest = m } in let b : FrameLists = record { cies = d; frames = g; rest = n } in a ≡ b)
lists_are c d f g m n p q r = cc (p, q, r)

same_split : (input : FrameInput) (a b : FrameLists) → IsSplit input a → IsSplit input b → a ≡ b
same_split input a b h k =
    let same : SameEntries h.entries k.entries h.stop k.stop ended ended = same_entries input h.entries k.entries h.stop k.stop ended ended h.are_entries h.is_end k.are_entries k.is_end in
    lists_are a.cies b.cies a.frames b.frames a.rest b.rest
    (h.cies ∙ ap (filter_map (cie_of input)) same.entries ∙ sym k.cies)
    (h.frames ∙ ap (filter_map (frame_of input)) same.entries ∙ sym k.frames)
    (h.rest ∙ ap (rest_at input.bytes) same.stop ∙ sym k.rest)

one_split : (input : Result FrameInput ElfError) (a b : FrameLists) → Splits input a → Splits input b → a ≡ b
one_split (Err e) a b h k = absurd h
one_split (Ok input) a b h k = same_split input a b h k

-- ---- causes

after : (input : FrameInput) (offset : ℕ) (h : EndsAfter input offset) → TooLong input.bytes offset
after input offset h = record { begins = h.begins; beyond = h.beyond }

lacks : (input : FrameInput) (r : ℕ) (h : LacksSymbol input r) → Lacking input h.offset r
lacks input r h = record { entry = h.entry; is_entry = h.is_entry; first = h.first }

ended_too_long : ended ≡ too_long → ⊥
ended_too_long e = cc

ended_lacking : (r : ℕ) → ended ≡ lacking r → ⊥
ended_lacking r e = cc

too_long_lacking : (r : ℕ) → too_long ≡ lacking r → ⊥
too_long_lacking r e = cc

same_lacking : (r q : ℕ) → lacking r ≡ lacking q → r ≡ q
same_lacking r q e = cc

split_not_after : (input : FrameInput) (a : FrameLists) (offset : ℕ) → IsSplit input a → EndsAfter input offset → ⊥
split_not_after input a offset h k = ended_too_long (same_entries input h.entries k.entries h.stop offset ended too_long h.are_entries h.is_end k.are_entries (after input offset k)).ending

split_not_lacking : (input : FrameInput) (a : FrameLists) (r : ℕ) → IsSplit input a → LacksSymbol input r → ⊥
split_not_lacking input a r h k = ended_lacking r (same_entries input h.entries k.entries h.stop k.offset ended (lacking r) h.are_entries h.is_end k.are_entries (lacks input r k)).ending

pub no_split : (input : Result FrameInput ElfError) (a : FrameLists) (e : FrameError) → Splits input a → IsFrameCause input e → IsFrameMemory e
no_split (Err f) a e h k = absurd h
no_split (Ok input) a (Elf e) h k = absurd k
no_split (Ok input) a (BadEntry offset) h k = absurd (split_not_after input a offset h k)
no_split (Ok input) a (BadSymbol r) h k = absurd (split_not_lacking input a r h k)
no_split (Ok input) a NoMemory h k = tt

same_offset : (input : FrameInput) (p q : ℕ) → EndsAfter input p → EndsAfter input q → p ≡ q
same_offset input p q h k = (same_entries input h.entries k.entries p q too_long too_long h.are_entries (after input p h) k.are_entries (after input q k)).stop

not_both_causes : (input : FrameInput) (p r : ℕ) → EndsAfter input p → LacksSymbol input r → ⊥
not_both_causes input p r h k = too_long_lacking r (same_entries input h.entries k.entries p k.offset too_long (lacking r) h.are_entries (after input p h) k.are_entries (lacks input r k)).ending

same_relocation : (input : FrameInput) (r q : ℕ) → LacksSymbol input r → LacksSymbol input q → r ≡ q
same_relocation input r q h k = same_lacking r q (same_entries input h.entries k.entries h.offset k.offset (lacking r) (lacking q) h.are_entries (lacks input r h) k.are_entries (lacks input q k)).ending

one_cause : (input : Result FrameInput ElfError) (e f : FrameError) → IsFrameCause input e → IsFrameCause input f → e ≢ NoMemory → f ≢ NoMemory → e ≡ f
one_cause input NoMemory f h k p q = absurd (p refl)
one_cause input e NoMemory h k p q = absurd (q refl)
one_cause (Err g) (Elf e) (Elf f) h k p q = ap Elf (sym h ∙ k)
one_cause (Err g) (Elf e) (BadEntry o) h k p q = absurd k
one_cause (Err g) (Elf e) (BadSymbol r) h k p q = absurd k
one_cause (Err g) (BadEntry o) f h k p q = absurd h
one_cause (Err g) (BadSymbol r) f h k p q = absurd h
one_cause (Ok input) (Elf e) f h k p q = absurd h
one_cause (Ok input) (BadEntry o) (Elf f) h k p q = absurd k
one_cause (Ok input) (BadEntry o) (BadEntry o2) h k p q = ap BadEntry (same_offset input o o2 h k)
one_cause (Ok input) (BadEntry o) (BadSymbol r) h k p q = absurd (not_both_causes input o r h k)
one_cause (Ok input) (BadSymbol r) (Elf f) h k p q = absurd k
one_cause (Ok input) (BadSymbol r) (BadEntry o) h k p q = absurd (not_both_causes input o r k h)
one_cause (Ok input) (BadSymbol r) (BadSymbol r2) h k p q = ap BadSymbol (same_relocation input r r2 h k)

pub split_is_one : SplitIsOne
split_is_one = record { one_split = one_split; no_split = no_split; one_cause = one_cause }

-- ---- the form of a list

same_list : (rs ts : List Crel) (a b : Result (List Crel) CrelError) → a ≡ b → a ≡ Ok rs → b ≡ Ok ts → rs ≡ ts
same_list rs ts a b p q r = cc

same_relocations : (l m : Listing) (rs ts : List Crel) → l.items ≡ m.items → all_ok l.items ≡ Ok rs → all_ok m.items ≡ Ok ts → ts ≡ rs
same_relocations l m rs ts e p q = same_list ts rs (all_ok m.items) (all_ok l.items) (ap all_ok (sym e)) q p

pub forms_agree : FormsAgree
forms_agree = record {
  one_split = λ c d file section loadable l m rs ts a b e p q h k.
      one_split (frame_input c d file section rs loadable) a b h (subst (λ (x : List Crel). Splits (frame_input c d file section x loadable) b) (same_relocations l m rs ts e p q) k);
  one_cause = λ c d file section loadable l m rs ts f g e p q h k.
      one_cause (frame_input c d file section rs loadable) f g h (subst (λ (x : List Crel). IsFrameCause (frame_input c d file section x loadable) g) (same_relocations l m rs ts e p q) k);
}
