-- The contributions of a number can be sorted.
use Rattle.std.proofs.Common.{◌≡◌, ℕ, ℤ, zero, suc, ◌+◌, ◌-◌, ◌*◌, ◌^◌, ◌<◌, ◌≤◌, Bool, true, false, cond, not, List, [], ◌∷◌, length, take, map, get_or, filter, refl, sym, ap, subst, ◌∙◌, pos, ◌-ℤ◌, FitsSigned, arith}
use Rattle.std.specs.Prelude.{nat_le, take_while}
use Rattle.std.specs.Int.{w32}
use Rattle.std.specs.Int.Bits.{bit_and, bit_or}
use Rattle.std.specs.List.{All, range_with_len, enumerate_from}
use Rattle.std.proofs.lemmas.Int.{ints}
use Rattle.std.proofs.lemmas.List.{length-map, get_or-map, take_all}
use Rattle.std.proofs.lemmas.List.Elements.{All-nil, All-cons, All-head, All-tail, All-same, All-append, All-map}
use Rattle.std.proofs.lemmas.List.FromFn.{fill_by_all, length-map-range_with_len, get_or-map-range_with_len, length-enumerate_from, get_or-enumerate_from}
use Rattle.std.proofs.lemmas.List.Sums.{prefix_len_is, sum_by-le}
use Rattle.elf_format.specs.declared.index.Span.{Span}
use Rattle.elf_format.specs.Flags.{has_flag}
use Rattle.sframe_format.specs.Contribution.{Contribution, Function, header, contribution_at, contributions, is_contribution, is_other_version, read_ones, functions_of, functions, function_at}
use Rattle.sframe_format.specs.Merged.{fres_len, fre_count, merged_flags, start_field, merged_fdes_start}
use Rattle.sframe_format.specs.Valid.{IsWellFormedContribution, HasRoom, StartsFit, IsSortable}
use Rattle.sframe_order.proofs.Ordered.{InOrder-len, InOrder-fres, length_functions, fres_functions}
use Rattle.sframe_order.proofs.Carried.{All-in_order}
use Rattle.demo_input.specs.Contribution.{numbered_start, numbered_contribution}
use Rattle.demo_input.specs.Generated.{piece_span, demo_sframe, demo_ranges}
use Rattle.demo_input.proofs.Pieces.{length_pieces, span_is_piece, spans_are_inside}
use Rattle.demo_input.proofs.Framing.{piece, contribution_len, is_version_2, no_flags, one_fde, one_fre, no_aux, is_well_formed, one_function, fres_are_3, start_is}

-- the contributions, each at its offset
abbrev pieces : ℕ → List Contribution
pieces n = map (λ k. piece (51 * k) n k) (range_with_len 0 n)

-- ---- what is read

range_is_long : (k : ℕ) → is_contribution (piece_span 51 k) ≡ true
range_is_long k =
    let size : 51 * k + 51 - 51 * k ≡ 51 = omega arith in
    ap (nat_le 28) size

ranges_are_long : (a n : ℕ) → filter is_contribution (map (piece_span 51) (range_with_len a n)) ≡ map (piece_span 51) (range_with_len a n)
ranges_are_long a zero = refl
ranges_are_long a (suc n) =
    let rest : List Span = map (piece_span 51) (range_with_len (a + 1) n) in
    ap (λ b. cond b (piece_span 51 a ∷ filter is_contribution rest) (filter is_contribution rest)) (range_is_long a) ∙ ap (λ l. piece_span 51 a ∷ l) (ranges_are_long (a + 1) n)

contribution_is : (n k : ℕ) → k < n → contribution_at (demo_sframe n) (piece_span 51 k) ≡ piece (51 * k) n k
unfolding demo_sframe
contribution_is n k below = ap (λ (bytes : List ℕ). record { offset = 51 * k; bytes = bytes }) (span_is_piece (numbered_contribution n) 51 (contribution_len n) n k below)

contributions_are : (n : ℕ) → contributions (demo_sframe n) (demo_ranges n) ≡ pieces n
contributions_are n =
    let s : List ℕ = demo_sframe n in
    let spans : List Span = map (piece_span 51) (range_with_len 0 n) in
    let len : length spans ≡ n = length-map-range_with_len (piece_span 51) 0 n in
    let none : Contribution = record { offset = 0; bytes = [] } in
    ap (map (contribution_at s)) (ranges_are_long 0 n)
    ∙ fill_by_all (λ k. piece (51 * k) n k) (map (contribution_at s) spans) n none (length-map spans (contribution_at s) ∙ len)
    (λ k below. get_or-map (contribution_at s) spans k (piece_span 51 k) none (omega arith) ∙ ap (contribution_at s) (get_or-map-range_with_len (piece_span 51) 0 n k k (piece_span 51 k) below (omega arith)) ∙ contribution_is n k below)

-- what holds of each contribution
All-pieces : (P : Contribution → Type 0) (n : ℕ) → ((k : ℕ) → P (piece (51 * k) n k)) → All P (pieces n)
All-pieces P n each = All-map P (λ k. piece (51 * k) n k) (range_with_len 0 n) (λ k d below. each (get_or (range_with_len 0 n) k d))

take_while_all : {X : Type 0} (p : X → Bool) (xs : List X) (d : X) → All (λ x. p x ≡ true) xs → take_while p xs ≡ xs
take_while_all p xs d all = ap (λ i. take i xs) (prefix_len_is p xs (length xs) d (omega arith) (λ k below. all k d below) (λ below. absurd (omega arith))) ∙ take_all (length xs) xs (omega arith)

read_are : (n : ℕ) → read_ones (demo_sframe n) (demo_ranges n) ≡ pieces n
read_are n =
    let p : Contribution → Bool = λ c. not (is_other_version c) in
    ap (take_while p) (contributions_are n) ∙ take_while_all p (pieces n) (record { offset = 0; bytes = [] }) (All-pieces (λ c. p c ≡ true) n (λ k. ap not (is_version_2 (51 * k) n k)))

-- ---- the functions

StartsBelow : Function → Type 0
StartsBelow g = (m : ℕ) × (g.start ≡ pos m) × (m < 2 ^ 31)

All-functions : (P : Function → Type 0) (cs : List Contribution) → All (λ c. All P (functions_of c)) cs → All P (functions cs)
All-functions P [] all = All-nil P
All-functions P (c ∷ cs) all =
    let q : Contribution → Type 0 = λ x. All P (functions_of x) in
    All-append P (functions_of c) (functions cs) (All-head q c cs all) (All-functions P cs (All-tail q c cs all))

starts_are_below : (n : ℕ) → n ≤ 1000 → All StartsBelow (functions (pieces n))
unfolding StartsBelow
starts_are_below n few =
    All-functions StartsBelow (pieces n) (All-pieces (λ c. All StartsBelow (functions_of c)) n (λ k. one k))
  where
    one : (k : ℕ) → All StartsBelow (functions_of (piece (51 * k) n k))
    one k = All-same StartsBelow (functions_of (piece (51 * k) n k)) (function_at (piece (51 * k) n k) 0 ∷ []) (one_function (51 * k) n k) (All-cons StartsBelow (function_at (piece (51 * k) n k) 0) [] (numbered_start n k, start_is (51 * k) n k (omega arith), omega arith) (All-nil StartsBelow))

few_functions : (n : ℕ) → length (functions (pieces n)) ≤ n
few_functions n =
    let f : Contribution → ℕ = λ c. (header c).num_fdes in
    omega (arith, length_functions (pieces n), sum_by-le f 1 (pieces n) (All-pieces (λ c. f c ≤ 1) n (λ k. omega (arith, one_fde (51 * k) n k))), length-map-range_with_len (λ k. piece (51 * k) n k) 0 n)

few_fres : (n : ℕ) → fres_len (functions (pieces n)) ≤ 3 * n
few_fres n =
    let f : Contribution → ℕ = λ c. fres_len (functions_of c) in
    omega (arith, fres_functions (pieces n), sum_by-le f 3 (pieces n) (All-pieces (λ c. f c ≤ 3) n (λ k. omega (arith, fres_are_3 (51 * k) n k))), length-map-range_with_len (λ k. piece (51 * k) n k) 0 n)

-- ---- the merged contribution

sframe_len : (n : ℕ) → length (demo_sframe n) ≡ 51 * n
unfolding demo_sframe
sframe_len n = length_pieces (numbered_contribution n) 51 (contribution_len n) 0 n

first_of : (P : Contribution → Type 0) (n : ℕ) (c : Contribution) (cs : List Contribution) → pieces n ≡ c ∷ cs → ((k : ℕ) → P (piece (51 * k) n k)) → P c
first_of P n c cs split each = All-head P c cs (All-same P (c ∷ cs) (pieces n) (sym split) (All-pieces P n each))

has_room : (n : ℕ) (c : Contribution) (cs : List Contribution) (gs : List Function) → n ≤ 1000 → pieces n ≡ c ∷ cs → 0 < length gs → length gs ≤ n → fres_len gs ≤ 3 * n → HasRoom (demo_sframe n) c cs gs
has_room n c cs gs few split some functions_few fres_few =
    let f : Contribution → ℕ = λ x. (header x).num_fres in
    let aux : (header c).aux_len ≡ 0 = first_of (λ x. (header x).aux_len ≡ 0) n c cs split (λ k. no_aux (51 * k) n k) in
    let same : fre_count (c ∷ cs) ≡ fre_count (pieces n) = ap fre_count (sym split) in
    record {
      used = omega (arith, sframe_len n);
      fres = omega (arith, same, sum_by-le f 1 (pieces n) (All-pieces (λ x. f x ≤ 1) n (λ k. omega (arith, one_fre (51 * k) n k))), length-map-range_with_len (λ k. piece (51 * k) n k) 0 n);
    }

-- no start value counts from its own field
no_flag_4 : (flags : ℕ) (p q : Bool) → flags ≡ 0 → has_flag (bit_or (bit_and flags 0xf4) (1 + cond p 2 0 + cond q 8 0)) 4 ≡ false
no_flag_4 flags p q none = ap (λ x. has_flag (bit_or (bit_and x 0xf4) (1 + cond p 2 0 + cond q 8 0)) 4) none ∙ closed p q
  where
    closed : (p q : Bool) → has_flag (bit_or (bit_and 0 0xf4) (1 + cond p 2 0 + cond q 8 0)) 4 ≡ false
    closed true true = refl
    closed true false = refl
    closed false true = refl
    closed false false = refl

value_fits : (b : Bool) (z : ℤ) (at m : ℕ) → b ≡ false → z ≡ pos m → m < 2 ^ 31 → FitsSigned w32 (z -ℤ pos (cond b at 0))
value_fits true z at m e start below = absurd (cc)
value_fits false z at m e start below = subst (λ x. FitsSigned w32 (x -ℤ pos 0)) (sym start) (omega (arith, ints))

field_fits : (flags at : ℕ) (g : Function) → has_flag flags 4 ≡ false → StartsBelow g → FitsSigned w32 (start_field flags at g)
unfolding StartsBelow
field_fits flags at g none start = value_fits (has_flag flags 4) g.start at start.0 none start.1 start.2

starts_fit : (n : ℕ) (c : Contribution) (cs : List Contribution) (gs : List Function) → pieces n ≡ c ∷ cs → All StartsBelow gs → StartsFit c cs gs
starts_fit n c cs gs split below =
    let flags : ℕ = merged_flags c cs in
    let none : has_flag flags 4 ≡ false = no_flag_4 (header c).flags _ _ (first_of (λ x. (header x).flags ≡ 0) n c cs split (λ k. no_flags (51 * k) n k)) in
    let field : ℕ × Function → ℤ = λ p. start_field flags (merged_fdes_start c + 20 * p.0) p.1 in
    All-map (FitsSigned w32) field (enumerate_from 0 gs) (λ k d inside.
    subst (λ p. FitsSigned w32 (field p)) (sym (get_or-enumerate_from 0 gs k d (omega (arith, length-enumerate_from 0 gs))))
    (field_fits flags (merged_fdes_start c + 20 * (0 + k)) (get_or gs k d.1) none (below k d.1 (omega (arith, length-enumerate_from 0 gs)))))

pub demo_is_sortable : (n : ℕ) → n ≤ 1000 → IsSortable (demo_sframe n) (demo_ranges n)
demo_is_sortable n few =
    let s : List ℕ = demo_sframe n in
    let rs : List Span = demo_ranges n in
    record {
      readable = record {
        ranges = spans_are_inside 51 n s (sframe_len n);
        size = omega (arith, sframe_len n);
        contributions = All-same IsWellFormedContribution (read_ones s rs) (pieces n) (read_are n) (All-pieces IsWellFormedContribution n (λ k. is_well_formed (51 * k) n k));
      };
      room = λ one c cs gs merge.
          let same : length gs ≡ length (functions (read_ones s rs)) = InOrder-len (functions (read_ones s rs)) gs merge.order in
          let fres : fres_len gs ≡ fres_len (functions (read_ones s rs)) = InOrder-fres (functions (read_ones s rs)) gs merge.order in
          let l : length (functions (read_ones s rs)) ≡ length (functions (pieces n)) = ap (λ cs. length (functions cs)) (read_are n) in
          let m : fres_len (functions (read_ones s rs)) ≡ fres_len (functions (pieces n)) = ap (λ cs. fres_len (functions cs)) (read_are n) in
          has_room n c cs gs few (sym (read_are n) ∙ merge.read_is) merge.some (omega (arith, few_functions n)) (omega (arith, few_fres n));
      starts = λ one c cs gs merge.
          starts_fit n c cs gs (sym (read_are n) ∙ merge.read_is)
          (All-in_order StartsBelow (functions (read_ones s rs)) gs merge.order (All-same StartsBelow (functions (read_ones s rs)) (functions (pieces n)) (ap functions (read_are n)) (starts_are_below n few)));
    }
