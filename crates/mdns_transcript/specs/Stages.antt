-- Which line may follow the lines of an entry that were read: for the contracts of private functions, and for their proofs.
use Rattle.std.specs.Prelude.{ℕ, ◌-◌, ◌==◌, nat_le, Bool, true, ◌&&◌, List, [], ◌∷◌, Option, Some, None, if◌then◌else◌}
use Rattle.number_text.specs.Digits.{◌>>=◌}
use Rattle.mdns_print.specs.declared.line.Section.{Section}
use Rattle.mdns_print.specs.declared.line.Section.TheVariants.{Answers, Authority, Additional}
use Rattle.mdns_print.specs.declared.line.Line.{Line}
use Rattle.mdns_print.specs.declared.line.Line.TheVariants as lines

-- How far the reading came: before the first entry; in an entry that has no outcome yet, up to its marks (0), up to the questions of a message (1), up to its
-- answers (2), authority (3) or additional records (4), or up to what is given (5); or behind the outcome, with so many of its items left.
pub data Stage : Type 0 where
  Before : Stage
  Upto : ℕ → Stage
  Left : ℕ → Stage

-- where a section stands in a message
abbrev pub place : Section → ℕ
place Answers = 2
place Authority = 3
place Additional = 4

-- whether no line is wanting
abbrev pub is_whole : Stage → Bool
is_whole Before = true
is_whole (Upto place) = true
is_whole (Left count) = count == 0

-- a later stage, where no outcome is told and a test of how far the entry came passes
abbrev pub onward : (ℕ → Bool) → Stage → Stage → Option Stage
onward test later Before = None
onward test later (Upto place) = if test place then Some later else None
onward test later (Left count) = None

-- one item less, where one is left
abbrev pub one_less : Stage → Option Stage
one_less Before = None
one_less (Upto place) = None
one_less (Left count) = if nat_le 1 count then Some (Left (count - 1)) else None

-- how far the reading comes by a line, where it may follow
abbrev pub next : Line → Stage → Option Stage
next (lines.Head daemon moment word event) stage = if is_whole stage then Some (Upto 0) else None
next (lines.Mark mark) stage = onward (λ place. nat_le place 0) (Upto 0) stage
next (lines.Sent to response id truncated) stage = onward (λ place. nat_le place 4) (Upto 1) stage
next (lines.Question question) stage = onward (λ at. nat_le 1 at && nat_le at 1) (Upto 1) stage
next (lines.Record section rr) stage = onward (λ at. nat_le 1 at && nat_le at (place section)) (Upto (place section)) stage
next (lines.Given given) stage = onward (λ place. nat_le place 5) (Upto 5) stage
next (lines.Ending ending) stage = onward (λ place. nat_le place 5) (Left 0) stage
next (lines.Count count) stage = onward (λ place. nat_le place 5) (Left count) stage
next (lines.Item item) stage = one_less stage

-- how far it comes by lines
abbrev pub run : List Line → Stage → Option Stage
run [] stage = Some stage
run (line ∷ more) stage = next line stage >>= run more
