-- Laws of the answers of the program.
use Rattle.std.specs.Prelude.{◌≡◌, ℕ, List, Option, Some}
use Rattle.sframe_format.specs.declared.fault.SframeOutcome.{SframeOutcome}
use Rattle.program_text.specs.declared.demo.Summary.{Summary}
use Rattle.program_text.specs.Query.{Query}
use Rattle.derive_program.specs.Cause.{IsReplied}
use Rattle.derive_program.specs.Reply.{Reply, index_merged, IsReply}
use Rattle.derive_program.specs.Shown.{HasSummary}

-- a query has one reply for the bytes of its files
abbrev pub RepliesAreOne : Type 0
RepliesAreOne = (query : Query) (bytes : List (List ℕ)) (a b : Reply) → IsReply query bytes a → IsReply query bytes b → a ≡ b

-- two texts of a reply are the same; of a merged index nothing is said
abbrev pub HasOneText : Reply → Option (List ℕ) → Option (List ℕ) → Type 0
HasOneText (index_merged len) s t = Unit {0}
HasOneText reply s t = s ≡ t

-- where the files are known, arguments have one reply, with one text; of a merged index it is its length that is one
abbrev pub KnownRepliesAreOne : Type 0
KnownRepliesAreOne = (files : List (List ℕ × List ℕ)) (words : List (List ℕ)) (a b : Reply) (s t : Option (List ℕ)) → IsReplied (Some files) words a s → IsReplied (Some files) words b t → (a ≡ b) × HasOneText b s t

-- the input of a number has one index, one SFrame section, and one summary with one text
abbrev pub SummariesAreOne : Type 0
SummariesAreOne = (count : ℕ) (s t : Summary) (i j f g : List ℕ) (o p : SframeOutcome) (a b : List ℕ) → HasSummary count s i f o a → HasSummary count t j g p b → (s ≡ t) × (i ≡ j) × (f ≡ g) × (o ≡ p) × (a ≡ b)

-- a summary has the number of the objects, of their units, and of the elements of `common`: they are as many
abbrev pub SummariesHaveNumber : Type 0
SummariesHaveNumber = (count : ℕ) (s : Summary) (i f : List ℕ) (o : SframeOutcome) (a : List ℕ) → HasSummary count s i f o a → (s.objects ≡ count) × (s.units ≡ count) × (s.common ≡ count)
