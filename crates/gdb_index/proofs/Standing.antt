-- Numbers, names and vectors that stand at an offset of a longer list of bytes.
use Rattle.std.proofs.Common.{◌≡◌, ◌≢◌, ℕ, zero, suc, ◌+◌, ◌*◌, ◌/◌, ◌%◌, ◌^◌, ◌<◌, ◌≤◌, Bool, false, cond, eqb, ltb, List, [], ◌∷◌, ◌++◌, length, take, drop, get_or, Option, Some, None, Ok, Err, refl, sym, ap, subst, ◌∙◌, arith, append_assoc}
use Rattle.std.specs.Prelude.{◌||◌}
use Rattle.std.specs.List.{All, flat_map, sum_by, position_or_len, position}
use Rattle.std.specs.Option.{option_map}
use Rattle.std.specs.Int.{w32, w64, to_le_bytes}
use Rattle.std.proofs.lemmas.Bool.{cond-true, ne_eqb, eq-eqb, lt-ltb, le-ltb, or_from}
use Rattle.std.proofs.lemmas.List.{length-append, drop_at, take_at, get_or_at, get_or-append-add, get_or_append_left, same_lists, length-take-le}
use Rattle.std.proofs.lemmas.List.Sums.{sum_by-cons, position_or_len_is}
use Rattle.std.proofs.lemmas.List.FromFn.{length-map-range_with_len, get_or-map-range_with_len}
use Rattle.elf_format.specs.Bytes.{le, u32_at, u64_at, string_at}
use Rattle.elf_format.proofs.NumberLemmas.{u32_is_sum, u64_is_sum, numbers_are_same}
use Rattle.gdb_index_format.specs.Probe.{vector_at}
use Rattle.gdb_index_format.specs.declared.bad_index.BadIndex.TheVariants.{VectorOutside}
use Rattle.gdb_index.specs.Layout.{u32s_bytes}
use Rattle.gdb_index.proofs.Reading.{vector_words}

pub record StandsAt (b : List ℕ) (at : ℕ) (bytes : List ℕ) : Type 0 where
  pub front : List ℕ
  pub back : List ℕ
  pub offset : length front ≡ at
  pub parts : b ≡ front ++ (bytes ++ back)

pub StandsAt-left : (b : List ℕ) (at : ℕ) (xs ys : List ℕ) → StandsAt b at (xs ++ ys) → StandsAt b at xs
StandsAt-left b at xs ys s = record { front = s.front; back = ys ++ s.back; offset = s.offset; parts = s.parts ∙ ap (λ (t : List ℕ). s.front ++ t) (append_assoc xs ys s.back) }

pub StandsAt-right : (b : List ℕ) (at : ℕ) (xs ys : List ℕ) → StandsAt b at (xs ++ ys) → StandsAt b (at + length xs) ys
StandsAt-right b at xs ys s = record {
  front = s.front ++ xs;
  back = s.back;
  offset = length-append s.front xs ∙ ap (λ n. n + length xs) s.offset;
  parts = s.parts ∙ ap (λ (t : List ℕ). s.front ++ t) (append_assoc xs ys s.back) ∙ sym (append_assoc s.front xs (ys ++ s.back));
}

pub StandsAt-within : (b : List ℕ) (at : ℕ) (bytes : List ℕ) → StandsAt b at bytes → at + length bytes ≤ length b
StandsAt-within b at bytes s = omega (arith, ap length s.parts, length-append s.front (bytes ++ s.back), length-append bytes s.back, s.offset)

-- item i of a list that is spelled item by item
pub StandsAt-item : {X : Type 0} (f : X → List ℕ) (b : List ℕ) (at : ℕ) (xs : List X) (i : ℕ) (d : X) → i < length xs → StandsAt b at (flat_map f xs) → StandsAt b (at + sum_by (λ x. length (f x)) (take i xs)) (f (get_or xs i d))
StandsAt-item f b at [] i d l s = absurd (omega arith)
StandsAt-item f b at (x ∷ xs) zero d l s = subst (λ n. StandsAt b n (f x)) (omega arith) (StandsAt-left b at (f x) (flat_map f xs) s)
StandsAt-item {X} f b at (x ∷ xs) (suc i) d l s =
    let rest = StandsAt-item f b (at + length (f x)) xs i d (omega arith) (StandsAt-right b at (f x) (flat_map f xs) s) in
    subst (λ n. StandsAt b n (f (get_or xs i d))) (omega (arith, sum_by-cons (λ (y : X). length (f y)) x (take i xs))) rest

byte_at : (b : List ℕ) (at : ℕ) (bytes : List ℕ) (k : ℕ) → StandsAt b at bytes → k < length bytes → get_or b (at + k) 0 ≡ get_or bytes k 0
byte_at b at bytes k s l =
    ap (λ (t : List ℕ). get_or t (at + k) 0) s.parts
    ∙ ap (λ n. get_or (s.front ++ (bytes ++ s.back)) (n + k) 0) (sym s.offset)
    ∙ get_or-append-add s.front (bytes ++ s.back) k 0
    ∙ get_or_append_left bytes s.back 0 k l

-- a number within the bytes that stand there
pub le-within : (b : List ℕ) (at : ℕ) (bytes : List ℕ) (k width : ℕ) → StandsAt b at bytes → k + width ≤ length bytes → le b (at + k) width ≡ le bytes k width
le-within b at bytes k width s l =
    numbers_are_same b bytes (at + k) k width (λ i below. ap (λ (n : ℕ). get_or b n 0) (regroup at k i) ∙ byte_at b at bytes (k + i) s (omega arith)) where
      regroup : (a b c : ℕ) → a + b + c ≡ a + (b + c)
      regroup a b c = omega arith

plain : (n : ℕ) → n ≡ n + 0
plain n = omega arith

four_bytes : (v : ℕ) → v < 2 ^ 32 → v % 256 + 256 * (v / 256 % 256) + 65536 * (v / 65536 % 256) + 16777216 * (v / 16777216 % 256) ≡ v
four_bytes v fits = omega arith

u32_of_bytes : (v : ℕ) → v < 2 ^ 32 → u32_at (to_le_bytes w32 v) 0 ≡ v
u32_of_bytes v fits = u32_is_sum (to_le_bytes w32 v) 0 ∙ omega (arith, four_bytes v fits)

pub u32_at-stands : (b : List ℕ) (at v : ℕ) → v < 2 ^ 32 → StandsAt b at (to_le_bytes w32 v) → u32_at b at ≡ v
u32_at-stands b at v fits s = ap (u32_at b) (plain at) ∙ le-within b at (to_le_bytes w32 v) 0 4 s (omega arith) ∙ u32_of_bytes v fits

low_half : (v : ℕ) → v < 2 ^ 64 → u32_at (to_le_bytes w64 v) 0 ≡ v % 4294967296
low_half v fits = u32_is_sum (to_le_bytes w64 v) 0 ∙ omega arith

high_half : (v : ℕ) → v < 2 ^ 64 → u32_at (to_le_bytes w64 v) 4 ≡ v / 4294967296
high_half v fits = u32_is_sum (to_le_bytes w64 v) 4 ∙ omega arith

u64_of_bytes : (v : ℕ) → v < 2 ^ 64 → u64_at (to_le_bytes w64 v) 0 ≡ v
u64_of_bytes v fits = u64_is_sum (to_le_bytes w64 v) 0 ∙ omega (arith, low_half v fits, high_half v fits)

pub u64_at-stands : (b : List ℕ) (at v : ℕ) → v < 2 ^ 64 → StandsAt b at (to_le_bytes w64 v) → u64_at b at ≡ v
u64_at-stands b at v fits s = ap (u64_at b) (plain at) ∙ le-within b at (to_le_bytes w64 v) 0 8 s (omega arith) ∙ u64_of_bytes v fits

-- ---- numbers, names and vectors

sum_of_fours : (ws : List ℕ) → sum_by (λ w. length (to_le_bytes w32 w)) ws ≡ 4 * length ws
sum_of_fours [] = refl
sum_of_fours (w ∷ ws) = omega (arith, sum_by-cons (λ (x : ℕ). length (to_le_bytes w32 x)) w ws, sum_of_fours ws)

pub u32_at-words : (b : List ℕ) (at : ℕ) (ws : List ℕ) (k d : ℕ) → k < length ws → get_or ws k d < 2 ^ 32 → StandsAt b at (u32s_bytes ws) → u32_at b (at + 4 * k) ≡ get_or ws k d
u32_at-words b at ws k d l fits s =
    let item = StandsAt-item (to_le_bytes w32) b at ws k d l s in
    ap (u32_at b) (omega (arith, sum_of_fours (take k ws), length-take-le k ws (omega arith))) ∙ u32_at-stands b (at + sum_by (λ w. length (to_le_bytes w32 w)) (take k ws)) (get_or ws k d) fits item

pub vector_at-stands : (b : List ℕ) (at : ℕ) (ws : List ℕ) → length ws < 2 ^ 32 → All (λ w. w < 2 ^ 32) ws → StandsAt b at (u32s_bytes (length ws ∷ ws)) → vector_at b at ≡ Ok (Some ws)
unfolding vector_at
vector_at-stands b at ws few fits s =
    let count : u32_at b at ≡ length ws = ap (u32_at b) (here at) ∙ u32_at-words b at (length ws ∷ ws) 0 0 (omega arith) few s in
    let within : at + (4 + 4 * length ws) ≤ length b = omega (arith, StandsAt-within b at (u32s_bytes (length ws ∷ ws)) s, len_words (length ws ∷ ws)) in
    let inside : (ltb (length b) (at + 4) || ltb (length b) (at + 4 + 4 * u32_at b at)) ≡ false =
    or_from (ltb (length b) (at + 4)) (ltb (length b) (at + 4 + 4 * u32_at b at)) (le-ltb (length b) (at + 4) (omega arith)) (le-ltb (length b) (at + 4 + 4 * u32_at b at) (omega arith)) in
    let read : vector_words b at (length ws) ≡ ws =
    same_lists (vector_words b at (length ws)) ws (length-map-range_with_len (λ (k : ℕ). u32_at b (at + 4 + 4 * k)) 0 (length ws))
    (λ k d l.
    let below : k < length ws = omega (arith, length-map-range_with_len (λ (j : ℕ). u32_at b (at + 4 + 4 * j)) 0 (length ws)) in
    get_or-map-range_with_len (λ (j : ℕ). u32_at b (at + 4 + 4 * j)) 0 (length ws) k k d below (omega arith)
    ∙ ap (u32_at b) (omega arith)
    ∙ u32_at-words b at (length ws ∷ ws) (suc k) d (omega arith) (fits k d below) s) in
    ap (λ x. cond x (Err VectorOutside) (Ok (Some (vector_words b at (u32_at b at))))) inside
    ∙ ap (λ n. Ok (Some (vector_words b at n))) count ∙ ap (λ x. Ok (Some x)) read where
      here : (n : ℕ) → n ≡ n + 4 * 0
      here n = omega arith

      len_words : (ws : List ℕ) → length (u32s_bytes ws) ≡ 4 * length ws
      len_words [] = refl
      len_words (w ∷ ws) = omega (arith, length-append (to_le_bytes w32 w) (u32s_bytes ws), len_words ws)

abbrev is_zero : ℕ → Bool
is_zero c = eqb c 0

first_zero : (name back : List ℕ) → All (λ c. c ≢ 0) name → position_or_len is_zero (name ++ (0 ∷ back)) ≡ length name
first_zero name back clean =
    position_or_len_is is_zero (name ++ (0 ∷ back)) (length name) 0 (omega (arith, length-append name (0 ∷ back)))
    (λ k l. ne_eqb (get_or (name ++ (0 ∷ back)) k 0) 0 (λ e. clean k 0 l (sym (get_or_append_left name (0 ∷ back) 0 k l) ∙ e)))
    (λ l. eq-eqb (get_or (name ++ (0 ∷ back)) (length name) 0) 0 (get_or_at name 0 back 0 (length name) refl))

abbrev front_of : List ℕ → Option (List ℕ)
front_of tail = option_map (λ n. take n tail) (position is_zero tail)

front_is : (name back : List ℕ) → All (λ c. c ≢ 0) name → front_of (name ++ (0 ∷ back)) ≡ Some name
front_is name back clean =
    let tail = name ++ (0 ∷ back) in
    let len : position_or_len is_zero tail ≡ length name = first_zero name back clean in
    ap (λ (o : Option ℕ). option_map (λ n. take n tail) o) (cond-true (ltb (position_or_len is_zero tail) (length tail)) (Some (position_or_len is_zero tail)) None (lt-ltb _ _ (omega (arith, len, length-append name (0 ∷ back)))))
    ∙ ap (λ n. Some (take n tail)) len ∙ ap (λ x. Some x) (take_at name (0 ∷ back) (length name) refl)

pub string_at-stands : (b : List ℕ) (at : ℕ) (name : List ℕ) → All (λ c. c ≢ 0) name → StandsAt b at (name ++ 0 ∷ []) → string_at b at ≡ Some name
unfolding string_at
string_at-stands b at name clean s =
    let tail : drop at b ≡ name ++ (0 ∷ s.back) = ap (drop at) s.parts ∙ drop_at s.front (name ++ 0 ∷ [] ++ s.back) at s.offset ∙ append_assoc name (0 ∷ []) s.back in
    ap front_of tail ∙ front_is name s.back clean
