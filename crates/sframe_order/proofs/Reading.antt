-- Reading contributions from one range after another.
use Rattle.std.proofs.Common.{◌≡◌, ℕ, ◌+◌, ◌<◌, ◌++◌, length, drop, get_or, sym, true, false, cond, not, List, [], ◌∷◌, map, filter, Some, ap, ◌∙◌}
use Rattle.std.specs.List.{take_while, find}
use Rattle.std.specs.Option.{option_map}
use Rattle.std.proofs.lemmas.List.Sums.{take_while-cons}
use Rattle.std.proofs.lemmas.List.{drop_more, append_assoc}
use Rattle.elf_format.specs.declared.index.Span.{Span}
use Rattle.sframe_format.specs.Contribution.{Contribution, header, contribution_at, is_contribution, is_other_version, contributions, read_ones, other_version}

-- a contribution of version 2, or one without the magic, is read
pub read_ones-kept : (s : List ℕ) (r : Span) (rs : List Span) → is_contribution r ≡ true → is_other_version (contribution_at s r) ≡ false → read_ones s (r ∷ rs) ≡ contribution_at s r ∷ read_ones s rs
read_ones-kept s r rs long same =
    ap (λ b. take_while (λ c. not (is_other_version c)) (map (contribution_at s) (cond b (r ∷ filter is_contribution rs) (filter is_contribution rs)))) long
    ∙ take_while-cons (λ c. not (is_other_version c)) (contribution_at s r) (contributions s rs)
    ∙ ap (λ b. cond (not b) (contribution_at s r ∷ read_ones s rs) []) same

pub other_version-kept : (s : List ℕ) (r : Span) (rs : List Span) → is_contribution r ≡ true → is_other_version (contribution_at s r) ≡ false → other_version s (r ∷ rs) ≡ other_version s rs
other_version-kept s r rs long same =
    ap (λ b. option_map (λ c. (header c).version) (find is_other_version (map (contribution_at s) (cond b (r ∷ filter is_contribution rs) (filter is_contribution rs))))) long
    ∙ ap (λ b. option_map (λ c. (header c).version) (cond b (Some (contribution_at s r)) (find is_other_version (contributions s rs)))) same

-- one of another version ends the reading
pub read_ones-ended : (s : List ℕ) (r : Span) (rs : List Span) → is_contribution r ≡ true → is_other_version (contribution_at s r) ≡ true → read_ones s (r ∷ rs) ≡ []
read_ones-ended s r rs long other =
    ap (λ b. take_while (λ c. not (is_other_version c)) (map (contribution_at s) (cond b (r ∷ filter is_contribution rs) (filter is_contribution rs)))) long
    ∙ take_while-cons (λ c. not (is_other_version c)) (contribution_at s r) (contributions s rs)
    ∙ ap (λ b. cond (not b) (contribution_at s r ∷ read_ones s rs) []) other

pub other_version-ended : (s : List ℕ) (r : Span) (rs : List Span) → is_contribution r ≡ true → is_other_version (contribution_at s r) ≡ true → other_version s (r ∷ rs) ≡ Some (header (contribution_at s r)).version
other_version-ended s r rs long other =
    ap (λ b. option_map (λ c. (header c).version) (find is_other_version (map (contribution_at s) (cond b (r ∷ filter is_contribution rs) (filter is_contribution rs))))) long
    ∙ ap (λ b. option_map (λ c. (header c).version) (cond b (Some (contribution_at s r)) (find is_other_version (contributions s rs)))) other

-- a step of reading: range i is read, and the rest stays to be read
pub read_ones-step : (s : List ℕ) (rs : List Span) (i : ℕ) (d : Span) (done : List Contribution) → i < length rs → is_contribution (get_or rs i d) ≡ true → is_other_version (contribution_at s (get_or rs i d)) ≡ false → done ++ read_ones s (drop i rs) ≡ read_ones s rs → (done ++ contribution_at s (get_or rs i d) ∷ []) ++ read_ones s (drop (i + 1) rs) ≡ read_ones s rs
read_ones-step s rs i d done below long same told =
    append_assoc done (contribution_at s (get_or rs i d) ∷ []) (read_ones s (drop (i + 1) rs))
    ∙ ap (λ t. done ++ t) (sym (ap (read_ones s) (drop_more rs i d below) ∙ read_ones-kept s (get_or rs i d) (drop (i + 1) rs) long same))
    ∙ told

pub other_version-step : (s : List ℕ) (rs : List Span) (i : ℕ) (d : Span) → i < length rs → is_contribution (get_or rs i d) ≡ true → is_other_version (contribution_at s (get_or rs i d)) ≡ false → other_version s (drop i rs) ≡ other_version s rs → other_version s (drop (i + 1) rs) ≡ other_version s rs
other_version-step s rs i d below long same told =
    sym (ap (other_version s) (drop_more rs i d below) ∙ other_version-kept s (get_or rs i d) (drop (i + 1) rs) long same) ∙ told
