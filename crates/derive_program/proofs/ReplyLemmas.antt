-- A query has one reply for the bytes of its file, and the line of a function that was found is its text.
use Rattle.std.proofs.Common.{◌≡◌, ℕ, List, [], ◌∷◌, ◌++◌, length, filter, map, Option, Some, None, Ok, refl, sym, ap, ◌∙◌, subst, inl}
use Rattle.std.specs.Option.{option_or}
use Rattle.gdb_index_format.specs.declared.version.IndexVersion.TheVariants.{V9}
use Rattle.gdb_index_format.specs.Version.{version_number}
use Rattle.index_merge.specs.declared.error.MergeError.{MergeError}
use Rattle.index_merge.specs.Cause.{IsIndexMergeCause}
use Rattle.index_merge.specs.Laws.{MergedSizesAreOne, MergeCausesAreOne, MergeableHasNoCause}
use Rattle.index_merge.specs.Merged.{IsMergedIndex, IsMergeable}
use Rattle.program_text.specs.Merge.{Merge, merged_text}
use Rattle.derive_program.specs.declared.ran.Ran.TheVariants.{RefusedMerge, NoMemory}
use Rattle.gdb_index_format.specs.declared.placement.AddressEntry.{AddressEntry}
use Rattle.gdb_index_format.specs.declared.unit.CuBoundary.{CuBoundary}
use Rattle.gdb_index_format.specs.Named.{Named}
use Rattle.gdb_index_format.specs.Units.{index_units}
use Rattle.index_browser.specs.declared.error.BrowseError.{BrowseError}
use Rattle.index_browser.specs.Areas.{index_addresses}
use Rattle.index_browser.specs.Checked.{IsChecked}
use Rattle.index_browser.specs.Fault.{browse_fault}
use Rattle.index_browser.specs.Laws.{CheckedHasNoFault, NameListsAreOne}
use Rattle.index_browser.specs.NameList.{IsNameListWith, has_prefix}
use Rattle.program_text.specs.Browse.{Browse, listing_start_lines, listed_text}
use Rattle.program_text.specs.Lines.{text_of}
use Rattle.program_text.specs.Report.{named_line}
use Rattle.sframe_find.specs.Frames.{Frames, frames_of}
use Rattle.sframe_find.specs.Scan.{IsScan}
use Rattle.sframe_find.specs.Ordered.{IsOrdered}
use Rattle.sframe_find.specs.Laws.{FindCausesAreOne, OrderedHasNoCause, ScansAreOne}
use Rattle.program_text.specs.Command.{command_of}
use Rattle.program_text.specs.Frame.{FrameQuery}
use Rattle.program_text.specs.Query.{Query, for_find, for_frame, for_browse, for_merge}
use Rattle.program_files.specs.Reading.{asked_files}
use Rattle.derive_program.specs.Laws.{RepliesAreOne, KnownRepliesAreOne, HasOneText}
use Rattle.derive_program.specs.Reply.{Reply, function_found, nothing_found, names_listed, index_merged, bad_frames, bad_listing, bad_merge, first_in, second_in, IsFrameReply, IsBrowseReply, IsMergeReply, IsReply, IsListing, IsReplyText, located_in}
use Rattle.derive_program.specs.declared.ran.Ran.{Ran}
use Rattle.derive_program.specs.steps.Answer.{IsListed, IsReplyWriting, IsQueryAnswer, IsMergeRefusal}
use Rattle.derive_program.specs.Writing.{Writes, IsSilent}
use Rattle.derive_program.proofs.AnswerLemmas.{after_reply}
use Rattle.derive_program.proofs.ClauseLemmas.{same_ok, same_query}

-- the text of what an index lists, by its start
pub listed_with : (bytes prefix : List ℕ) (units : List CuBoundary) (addresses : List AddressEntry) (names : List Named) (start text : List ℕ) (count : ℕ) → units ≡ index_units bytes → addresses ≡ index_addresses bytes → IsNameListWith bytes prefix names → length names ≡ count → start ≡ text_of (listing_start_lines units addresses count) → text ≡ start ++ text_of (map named_line names) → IsListed bytes prefix text count
listed_with bytes prefix units addresses names start text count u a list counted started grown = record {
  names = names;
  list = list;
  text_is =
      grown
      ∙ ap (λ t. t ++ text_of (map named_line names)) started
      ∙ ap (λ x. text_of (listing_start_lines x addresses count) ++ text_of (map named_line names)) u
      ∙ ap (λ x. text_of (listing_start_lines (index_units bytes) x count) ++ text_of (map named_line names)) a
      ∙ ap (λ n. text_of (listing_start_lines (index_units bytes) (index_addresses bytes) n) ++ text_of (map named_line names)) (sym counted);
  count_is = counted;
}

-- the reply for what a scan ends with
scan_reply : Option ℕ → Reply
scan_reply None = nothing_found
scan_reply (Some index) = function_found index

one_frame_reply : FindCausesAreOne → OrderedHasNoCause → ScansAreOne → (bytes : List ℕ) (base address : ℕ) (a b : Reply) → IsFrameReply bytes base address a → IsFrameReply bytes base address b → a ≡ b
unfolding scan_reply
one_frame_reply causes ordered scans bytes base address (function_found i) (function_found j) (o, x) (p, y) = ap scan_reply (scans (frames_of bytes base) address (Some i) (Some j) x y)
one_frame_reply causes ordered scans bytes base address (function_found i) nothing_found (o, x) (p, y) = ap scan_reply (scans (frames_of bytes base) address (Some i) None x y)
one_frame_reply causes ordered scans bytes base address (function_found i) (bad_frames fault) (o, x) cause = absurd (ordered bytes base fault o cause)
one_frame_reply causes ordered scans bytes base address (function_found i) b x never = absurd never
one_frame_reply causes ordered scans bytes base address nothing_found (function_found j) (o, x) (p, y) = ap scan_reply (scans (frames_of bytes base) address None (Some j) x y)
one_frame_reply causes ordered scans bytes base address nothing_found nothing_found (o, x) (p, y) = ap scan_reply (scans (frames_of bytes base) address None None x y)
one_frame_reply causes ordered scans bytes base address nothing_found (bad_frames fault) (o, x) cause = absurd (ordered bytes base fault o cause)
one_frame_reply causes ordered scans bytes base address nothing_found b x never = absurd never
one_frame_reply causes ordered scans bytes base address (bad_frames fault) (function_found j) cause (p, y) = absurd (ordered bytes base fault p cause)
one_frame_reply causes ordered scans bytes base address (bad_frames fault) nothing_found cause (p, y) = absurd (ordered bytes base fault p cause)
one_frame_reply causes ordered scans bytes base address (bad_frames fault) (bad_frames other) x y = ap (λ f. bad_frames f) (causes bytes base fault other x y)
one_frame_reply causes ordered scans bytes base address (bad_frames fault) b x never = absurd never
one_frame_reply causes ordered scans bytes base address a b never y = absurd never

-- an index has one list of the names that begin with a prefix
one_list_with : NameListsAreOne → (bytes prefix : List ℕ) (ns ms : List Named) → IsNameListWith bytes prefix ns → IsNameListWith bytes prefix ms → ns ≡ ms
one_list_with one bytes prefix ns ms (all, list, is) (others, other, are) = is ∙ ap (λ xs. filter (has_prefix prefix) xs) (one bytes all others list other) ∙ sym are

never_both : CheckedHasNoFault → (bytes : List ℕ) (fault : BrowseError) → IsChecked bytes → browse_fault bytes ≡ Some fault → ⊥
never_both none bytes fault checked is = let both : None ≡ Some fault = sym ((none bytes).0 checked) ∙ is in cc

one_fault : (bytes : List ℕ) (e f : BrowseError) → browse_fault bytes ≡ Some e → browse_fault bytes ≡ Some f → e ≡ f
one_fault bytes e f x y = let same : Some e ≡ Some f = sym x ∙ y in cc

one_browse_reply : CheckedHasNoFault → NameListsAreOne → (bytes prefix : List ℕ) (a b : Reply) → IsBrowseReply bytes prefix a → IsBrowseReply bytes prefix b → a ≡ b
one_browse_reply none one bytes prefix (names_listed n) (names_listed m) (checked, (ns, (list, is))) (too, (ms, (other, are))) =
    ap (λ k. names_listed k) (sym is ∙ ap (λ (xs : List Named). length xs) (one_list_with one bytes prefix ns ms list other) ∙ are)
one_browse_reply none one bytes prefix (names_listed n) (bad_listing fault) (checked, list) cause = absurd (never_both none bytes fault checked cause)
one_browse_reply none one bytes prefix (names_listed n) b x never = absurd never
one_browse_reply none one bytes prefix (bad_listing fault) (names_listed m) cause (checked, list) = absurd (never_both none bytes fault checked cause)
one_browse_reply none one bytes prefix (bad_listing fault) (bad_listing other) x y = ap (λ e. bad_listing e) (one_fault bytes fault other x y)
one_browse_reply none one bytes prefix (bad_listing fault) b x never = absurd never
one_browse_reply none one bytes prefix a b never y = absurd never

-- two indexes have one reply
one_of_both : (first second : List ℕ) (e f : BrowseError) → option_or (browse_fault first) (browse_fault second) ≡ Some e → option_or (browse_fault first) (browse_fault second) ≡ Some f → e ≡ f
one_of_both first second e f x y = let same : Some e ≡ Some f = sym x ∙ y in cc

neither_of_both : CheckedHasNoFault → (first second : List ℕ) (fault : BrowseError) → IsChecked first → IsChecked second → option_or (browse_fault first) (browse_fault second) ≡ Some fault → ⊥
neither_of_both none first second fault one two is =
    let at : option_or (browse_fault first) (browse_fault second) ≡ None = ap (λ o. option_or o (browse_fault second)) ((none first).0 one) ∙ (none second).0 two in
    let both : None ≡ Some fault = sym at ∙ is in cc

one_merge_reply : CheckedHasNoFault → MergedSizesAreOne → MergeCausesAreOne → MergeableHasNoCause → (offset : ℕ) (first second : List ℕ) (a b : Reply) → IsMergeReply offset first second a → IsMergeReply offset first second b → a ≡ b
one_merge_reply none sizes causes mergeable offset first second (index_merged n) (index_merged m) (c, d, able, (i, (merged, is))) (e, f, ableToo, (j, (other, are))) =
    ap (λ k. index_merged k) (sym is ∙ sizes (version_number V9) first second (length i) (length j) merged.size other.size ∙ are)
one_merge_reply none sizes causes mergeable offset first second (index_merged n) (bad_listing fault) (c, d, able, merged) cause = absurd (neither_of_both none first second fault c d cause)
one_merge_reply none sizes causes mergeable offset first second (index_merged n) (bad_merge error) (c, d, able, merged) (e, f, cause, not_memory) = absurd (not_memory (mergeable (version_number V9) first second offset error able cause))
one_merge_reply none sizes causes mergeable offset first second (index_merged n) b x never = absurd never
one_merge_reply none sizes causes mergeable offset first second (bad_listing fault) (index_merged m) cause (c, d, able, merged) = absurd (neither_of_both none first second fault c d cause)
one_merge_reply none sizes causes mergeable offset first second (bad_listing fault) (bad_listing other) x y = ap (λ e. bad_listing e) (one_of_both first second fault other x y)
one_merge_reply none sizes causes mergeable offset first second (bad_listing fault) (bad_merge error) cause (c, d, why, not_memory) = absurd (neither_of_both none first second fault c d cause)
one_merge_reply none sizes causes mergeable offset first second (bad_listing fault) b x never = absurd never
one_merge_reply none sizes causes mergeable offset first second (bad_merge error) (index_merged m) (e, f, cause, not_memory) (c, d, able, merged) = absurd (not_memory (mergeable (version_number V9) first second offset error able cause))
one_merge_reply none sizes causes mergeable offset first second (bad_merge error) (bad_listing fault) (c, d, why, not_memory) cause = absurd (neither_of_both none first second fault c d cause)
one_merge_reply none sizes causes mergeable offset first second (bad_merge error) (bad_merge other) (c, d, x, p) (e, f, y, q) = ap (λ z. bad_merge z) (causes (version_number V9) first second offset error other x y p q)
one_merge_reply none sizes causes mergeable offset first second (bad_merge error) b x never = absurd never
one_merge_reply none sizes causes mergeable offset first second a b never y = absurd never

pub one_reply : FindCausesAreOne → OrderedHasNoCause → ScansAreOne → CheckedHasNoFault → NameListsAreOne → MergedSizesAreOne → MergeCausesAreOne → MergeableHasNoCause → RepliesAreOne
one_reply causes ordered scans none lists sizes merging mergeable (for_find command) bytes a b x y = sym x ∙ y
one_reply causes ordered scans none lists sizes merging mergeable (for_frame command) bytes a b x y = one_frame_reply causes ordered scans (first_in bytes) command.base command.address a b x y
one_reply causes ordered scans none lists sizes merging mergeable (for_browse command) bytes a b x y = one_browse_reply none lists (first_in bytes) command.prefix a b x y
one_reply causes ordered scans none lists sizes merging mergeable (for_merge command) bytes a b x y = one_merge_reply none sizes merging mergeable command.offset (first_in bytes) (second_in bytes) a b x y

-- a reply has one text
one_listing : NameListsAreOne → (query : Query) (bytes : List (List ℕ)) (s t : Option (List ℕ)) → IsListing query bytes s → IsListing query bytes t → s ≡ t
one_listing one (for_browse command) bytes s t (ns, (list, is)) (ms, (other, are)) =
    sym is ∙ ap (λ (xs : List Named). Some (listed_text (index_units (first_in bytes)) (index_addresses (first_in bytes)) xs)) (one_list_with one (first_in bytes) command.prefix ns ms list other) ∙ are
one_listing one query bytes s t never y = absurd never

one_text : NameListsAreOne → (query : Query) (bytes : List (List ℕ)) (reply : Reply) (s t : Option (List ℕ)) → IsReplyText query bytes reply s → IsReplyText query bytes reply t → HasOneText reply s t
one_text one query bytes (names_listed count) s t x y = one_listing one query bytes s t x y
one_text one query bytes (index_merged len) s t x y = tt
one_text one query bytes reply s t x y = sym x ∙ y

pub one_known_reply : RepliesAreOne → NameListsAreOne → KnownRepliesAreOne
one_known_reply one lists files words a b s t x y =
    let query_is = same_query (command_of words) x.query y.query x.said y.said in
    let read : asked_files files y.query ≡ Ok x.bytes = ap (λ q. asked_files files q) (sym query_is) ∙ x.read in
    let bytes_are = same_ok (asked_files files y.query) x.bytes y.bytes read y.read in
    let P : Query → Type 0 = λ q. IsReply q x.bytes a in
    let Q : List (List ℕ) → Type 0 = λ l. IsReply y.query l a in
    let reply_is = one y.query y.bytes a b (subst Q bytes_are (subst P query_is x.replies)) y.replies in
    let T : Query → Type 0 = λ q. IsReplyText q x.bytes a s in
    let U : List (List ℕ) → Type 0 = λ l. IsReplyText y.query l a s in
    let V : Reply → Type 0 = λ r. IsReplyText y.query y.bytes r s in
    (reply_is, one_text lists y.query y.bytes b s t (subst V reply_is (subst U bytes_are (subst T query_is x.text_is))) y.text_is)

-- from the writing of the merged index to the answer of the query
pub merged_answer : (command : Merge) (first second given other index put : List ℕ) (writes : Writes) (ran : Ran) → given ≡ first → other ≡ second → IsChecked first → IsChecked second → IsMergeable (version_number V9) given other command.offset → IsMergedIndex V9 given other command.offset index → put ≡ index → IsReplyWriting (index_merged (length put)) (merged_text put) writes ran → IsQueryAnswer (for_merge command) (first ∷ second ∷ []) writes ran
merged_answer command first second given other index put writes ran given_is other_is one two able merged put_is writing =
    let P : List ℕ → Type 0 = λ g. IsMergeable (version_number V9) g other command.offset in
    let Q : List ℕ → Type 0 = λ o. IsMergeable (version_number V9) first o command.offset in
    let able_is = subst Q other_is (subst P given_is able) in
    let R : List ℕ → Type 0 = λ g. IsMergedIndex V9 g other command.offset index in
    let S : List ℕ → Type 0 = λ o. IsMergedIndex V9 first o command.offset index in
    let merged_is = subst S other_is (subst R given_is merged) in
    let T : List ℕ → Type 0 = λ p. IsMergedIndex V9 first second command.offset p in
    let put_merged = subst T (sym put_is) merged_is in
    after_reply (for_merge command) (first ∷ second ∷ []) (index_merged (length put)) (merged_text put) writes ran (one, two, able_is, (put, (put_merged, refl))) (put, (put_merged, refl)) writing

-- from a refusal of merging to the answer of the query
pub refused_answer : (command : Merge) (first second given other : List ℕ) (error : MergeError) (writes : Writes) (ran : Ran) → given ≡ first → other ≡ second → IsChecked first → IsChecked second → IsIndexMergeCause (version_number V9) given other command.offset error → IsSilent writes → IsMergeRefusal error ran → IsQueryAnswer (for_merge command) (first ∷ second ∷ []) writes ran
refused_answer command first second given other error writes (RefusedMerge answered) given_is other_is one two cause silent (is, not_memory) =
    let P : List ℕ → Type 0 = λ g. IsIndexMergeCause (version_number V9) g other command.offset error in
    let Q : List ℕ → Type 0 = λ o. IsIndexMergeCause (version_number V9) first o command.offset error in
    let R : MergeError → Type 0 = λ e. IsIndexMergeCause (version_number V9) first second command.offset e in
    ((one, two, subst R (sym is) (subst Q other_is (subst P given_is cause)), λ e. not_memory (sym is ∙ e)), silent)
refused_answer command first second given other error writes NoMemory given_is other_is one two cause silent is = record { written = silent.written; calls = inl silent.puts }
refused_answer command first second given other error writes ran given_is other_is one two cause silent never = absurd never

-- from the writing of what an index lists to the answer of the query
pub listed_answer : (command : Browse) (bytes index prefix text put : List ℕ) (count : ℕ) (writes : Writes) (ran : Ran) → index ≡ bytes → IsChecked bytes → prefix ≡ command.prefix → IsListed index prefix text count → put ≡ text → IsReplyWriting (names_listed count) put writes ran → IsQueryAnswer (for_browse command) (bytes ∷ []) writes ran
listed_answer command bytes index prefix text put count writes ran index_is checked prefix_is listed put_is writing =
    let P : List ℕ → Type 0 = λ p. IsListed index p text count in
    let Q : List ℕ → Type 0 = λ b. IsListed b command.prefix text count in
    let l = subst Q index_is (subst P prefix_is listed) in
    let R : List ℕ → Type 0 = λ t. IsReplyWriting (names_listed count) t writes ran in
    after_reply (for_browse command) (bytes ∷ []) (names_listed count) text writes ran (checked, (l.names, (l.list, l.count_is))) (l.names, (l.list, ap (λ t. Some t) (sym l.text_is))) (subst R put_is writing)

-- from the writing of a function's line to the answer of the query
pub located_answer : (command : FrameQuery) (bytes : List ℕ) (frames : Frames) (index : ℕ) (text put : List ℕ) (writes : Writes) (ran : Ran) → frames ≡ frames_of bytes command.base → IsOrdered bytes command.base → IsScan frames command.address (Some index) → located_in frames command.address index ≡ Some text → put ≡ text → IsReplyWriting (function_found index) put writes ran → IsQueryAnswer (for_frame command) (bytes ∷ []) writes ran
located_answer command bytes frames index text put writes ran is ordered scan text_is put_is writing =
    let P : Frames → Type 0 = λ f. IsScan f command.address (Some index) in
    let Q : List ℕ → Type 0 = λ t. IsReplyWriting (function_found index) t writes ran in
    after_reply (for_frame command) (bytes ∷ []) (function_found index) text writes ran (ordered, subst P is scan) (ap (λ f. located_in f command.address index) (sym is) ∙ text_is) (subst Q put_is writing)
