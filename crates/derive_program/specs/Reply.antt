-- What a query gives for the bytes of its files, and the text that it writes.
use Rattle.std.specs.Prelude.{◌≡◌, ◌≢◌, ℕ, List, [], ◌∷◌, length, Option, Some, None, Result, Ok, Err, slice_get}
use Rattle.std.specs.Option.{option_map, option_or}
use Rattle.gdb_index_format.specs.declared.bad_index.BadIndex.{BadIndex}
use Rattle.gdb_index_format.specs.declared.version.IndexVersion.TheVariants.{V9}
use Rattle.gdb_index_format.specs.Named.{Named}
use Rattle.gdb_index_format.specs.Probe.{probe}
use Rattle.gdb_index_format.specs.Units.{index_units}
use Rattle.gdb_index_format.specs.Version.{version_number}
use Rattle.index_browser.specs.declared.error.BrowseError.{BrowseError}
use Rattle.index_browser.specs.Areas.{index_addresses}
use Rattle.index_browser.specs.Checked.{IsChecked}
use Rattle.index_browser.specs.Fault.{browse_fault}
use Rattle.index_browser.specs.NameList.{IsNameListWith}
use Rattle.index_merge.specs.declared.error.MergeError.{MergeError}
use Rattle.index_merge.specs.declared.error.MergeError.TheVariants as merging
use Rattle.index_merge.specs.Cause.{IsIndexMergeCause}
use Rattle.index_merge.specs.Merged.{IsMergedIndex, IsMergeable}
use Rattle.sframe_find.specs.declared.fault.FindFault.{FindFault}
use Rattle.sframe_find.specs.declared.frames.FrameFunction.{FrameFunction}
use Rattle.sframe_find.specs.Frames.{Frames, frames_of, frame_function}
use Rattle.sframe_find.specs.Ordered.{IsOrdered, IsFindCause}
use Rattle.sframe_find.specs.Scan.{IsScan, covers_address}
use Rattle.program_text.specs.Browse.{listed_text}
use Rattle.program_text.specs.Find.{found_of}
use Rattle.program_text.specs.Frame.{located_of}
use Rattle.program_text.specs.Merge.{merged_text}
use Rattle.program_text.specs.Query.{Query, for_find, for_frame, for_browse, for_merge}
use Rattle.derive_program.specs.declared.ran.Ran.{Ran}
use Rattle.derive_program.specs.declared.ran.Ran.TheVariants.{Found, Located, Absent, Listed, Merged, RefusedIndex, RefusedFrames, RefusedBrowse, RefusedMerge}

-- the elements of a CU vector, the index of a function, neither, the number of names that are listed, the length of a merged index, or why a
-- file is refused or two are
pub data Reply : Type 0 where
  elements_found : List ℕ → Reply
  function_found : ℕ → Reply
  nothing_found : Reply
  names_listed : ℕ → Reply
  index_merged : ℕ → Reply
  bad_index : BadIndex → Reply
  bad_frames : FindFault → Reply
  bad_listing : BrowseError → Reply
  bad_merge : MergeError → Reply

-- the bytes of the first file, and of the second
abbrev pub first_in : List (List ℕ) → List ℕ
first_in [] = []
first_in (bytes ∷ others) = bytes

abbrev pub second_in : List (List ℕ) → List ℕ
second_in [] = []
second_in (bytes ∷ others) = first_in others

-- the reply for what a probe ends with
abbrev pub probe_reply : Result (Option (List ℕ)) BadIndex → Reply
probe_reply (Ok (Some elements)) = elements_found elements
probe_reply (Ok None) = nothing_found
probe_reply (Err fault) = bad_index fault

-- the reply for an address: the scan of the functions of a section that can be searched, or the first fault of the section
abbrev pub IsFrameReply : List ℕ → ℕ → ℕ → Reply → Type 0
IsFrameReply bytes base address (function_found index) = IsOrdered bytes base × IsScan (frames_of bytes base) address (Some index)
IsFrameReply bytes base address nothing_found = IsOrdered bytes base × IsScan (frames_of bytes base) address None
IsFrameReply bytes base address (bad_frames fault) = IsFindCause bytes base fault
IsFrameReply bytes base address reply = ⊥

-- the reply for a prefix: the number of the names that begin with it, of an index that can be browsed, or the first test that the index fails
abbrev pub IsBrowseReply : List ℕ → List ℕ → Reply → Type 0
IsBrowseReply bytes prefix (names_listed count) = IsChecked bytes × ((names : List Named) × (IsNameListWith bytes prefix names × (length names ≡ count)))
IsBrowseReply bytes prefix (bad_listing fault) = browse_fault bytes ≡ Some fault
IsBrowseReply bytes prefix reply = ⊥

-- The reply for two indexes and an offset: the length of the merged index, of indexes that can be browsed and merged; the first test that the
-- first index fails, or else the second; or why indexes that can be browsed are not merged.
abbrev pub IsMergeReply : ℕ → List ℕ → List ℕ → Reply → Type 0
IsMergeReply offset first second (index_merged len) =
    IsChecked first × IsChecked second × IsMergeable (version_number V9) first second offset × ((index : List ℕ) × (IsMergedIndex V9 first second offset index × (length index ≡ len)))
IsMergeReply offset first second (bad_listing fault) = option_or (browse_fault first) (browse_fault second) ≡ Some fault
IsMergeReply offset first second (bad_merge error) = IsChecked first × IsChecked second × IsIndexMergeCause (version_number V9) first second offset error × (error ≢ merging.NoMemory)
IsMergeReply offset first second reply = ⊥

-- the reply of a query for the bytes of its files
abbrev pub IsReply : Query → List (List ℕ) → Reply → Type 0
IsReply (for_find command) files reply = probe_reply (probe (first_in files) command.name).answer ≡ reply
IsReply (for_frame command) files reply = IsFrameReply (first_in files) command.base command.address reply
IsReply (for_browse command) files reply = IsBrowseReply (first_in files) command.prefix reply
IsReply (for_merge command) files reply = IsMergeReply command.offset (first_in files) (second_in files) reply

-- the text of a function that was found for an address
abbrev pub function_text : ℕ → ℕ → FrameFunction → List ℕ
function_text index address function = located_of index function.address function.size (covers_address function address)

-- the text of the function of an index, where there is one
abbrev pub located_in : Frames → ℕ → ℕ → Option (List ℕ)
located_in frames address index = option_map (λ f. function_text index address (frame_function frames.base f)) (slice_get frames.functions index)

-- the text of a function that a query found in the bytes of its file
abbrev pub frame_text : Query → List ℕ → ℕ → Option (List ℕ)
frame_text (for_find command) bytes index = None
frame_text (for_frame command) bytes index = located_in (frames_of bytes command.base) command.address index
frame_text (for_browse command) bytes index = None
frame_text (for_merge command) bytes index = None

-- the text that is written for what was looked up, where one is
abbrev pub lookup_text : Query → List (List ℕ) → Reply → Option (List ℕ)
lookup_text query files (elements_found elements) = Some (found_of elements)
lookup_text query files (function_found index) = frame_text query (first_in files) index
lookup_text query files reply = None

-- the text of exactly the units and the address entries that an index lists, and of its names that begin with the prefix
abbrev pub IsListing : Query → List (List ℕ) → Option (List ℕ) → Type 0
IsListing (for_browse command) files text = (names : List Named) × (IsNameListWith (first_in files) command.prefix names × (Some (listed_text (index_units (first_in files)) (index_addresses (first_in files)) names) ≡ text))
IsListing query files text = ⊥

-- the text of the merged index of two indexes
abbrev pub IsMergedText : Query → List (List ℕ) → Option (List ℕ) → Type 0
IsMergedText (for_merge command) files text = (index : List ℕ) × (IsMergedIndex V9 (first_in files) (second_in files) command.offset index × (Some (merged_text index) ≡ text))
IsMergedText query files text = ⊥

-- the text that is written for a reply, where one is
abbrev pub IsReplyText : Query → List (List ℕ) → Reply → Option (List ℕ) → Type 0
IsReplyText query files (names_listed count) text = IsListing query files text
IsReplyText query files (index_merged len) text = IsMergedText query files text
IsReplyText query files reply text = lookup_text query files reply ≡ text

-- a text is written for a reply
abbrev pub HasReplyText : Query → List (List ℕ) → Reply → Type 0
HasReplyText query files reply = (text : List ℕ) × IsReplyText query files reply (Some text)

-- the reply that an answer of the program is, where it is one
abbrev pub reply_in : Ran → Option Reply
reply_in (Found answer) = Some (elements_found answer.words.items)
reply_in (Located index) = Some (function_found index)
reply_in Absent = Some nothing_found
reply_in (Listed count) = Some (names_listed count)
reply_in (Merged len) = Some (index_merged len)
reply_in (RefusedIndex fault) = Some (bad_index fault)
reply_in (RefusedFrames fault) = Some (bad_frames fault)
reply_in (RefusedBrowse fault) = Some (bad_listing fault)
reply_in (RefusedMerge error) = Some (bad_merge error)
reply_in ran = None
