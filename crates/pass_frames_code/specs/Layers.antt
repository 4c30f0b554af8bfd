-- What a pass makes of a block: of each instruction in turn what stands in front of it, in its place and behind it,
-- by
-- a running state; what stands in front of the first one and behind the last one; and the terminator.
use Rattle.std.specs.Prelude.{◌≡◌, ℕ, List, [], length, take, slice_get, option_to_list, Some, None, Option, ◌+◌, ◌∷◌, ◌++◌, if◌then◌else◌, Bool}
use Rattle.pass_proofs.specs.ir_model.declared.instr.Instr.{Instr}
use Rattle.pass_proofs.specs.ir_model.declared.instr.Terminator.{Terminator}
use Rattle.pass_proofs.specs.ir_model.declared.module.Block.{Block}

pub record Layer (S : Type 0) : Type 0 where
  -- what stands in front of the first instruction, and the state behind that
  pub front : List Instr
  pub start : S
  -- what an instruction becomes; it goes where nothing stands in its place
  pub before : S → Instr → List Instr
  pub here : S → Instr → Option Instr
  pub behind : S → Instr → List Instr
  pub after : S → Instr → S
  -- what stands behind the last one, and the terminator
  pub back : S → List Instr
  pub term : S → Terminator → Terminator

-- ---- a layer over instructions

-- all that an instruction becomes
abbrev pub becomes : {S : Type 0} → Layer S → S → Instr → List Instr
becomes L s i = L.before s i ++ (option_to_list (L.here s i) ++ L.behind s i)

-- what instructions become, one behind another
abbrev pub grown : {S : Type 0} → Layer S → S → List Instr → List Instr
grown L s [] = []
grown L s (i ∷ is) = becomes L s i ++ grown L (L.after s i) is

-- the state behind instructions
abbrev pub passed : {S : Type 0} → Layer S → S → List Instr → S
passed L s [] = s
passed L s (i ∷ is) = passed L (L.after s i) is

-- the instructions of the block that comes of it
abbrev pub woven : {S : Type 0} → Layer S → List Instr → List Instr
woven L is = L.front ++ (grown L L.start is ++ L.back (passed L L.start is))

-- and its terminator
abbrev pub ended : {S : Type 0} → Layer S → List Instr → Terminator → Terminator
ended L is t = L.term (passed L L.start is) t

-- c is what the layer makes of the block b
pub record IsMadeBy {S : Type 0} (L : Layer S) (b c : Block) : Type 0 where
  pub label : c.label ≡ b.label
  pub instrs : c.instrs ≡ woven L b.instrs
  pub term : c.term ≡ ended L b.instrs b.term

-- ---- places

-- the state in which the instruction at a position is met
abbrev pub state_at : {S : Type 0} → Layer S → List Instr → ℕ → S
state_at L is k = passed L L.start (take k is)

-- what stands in front of what the instruction at a position becomes
abbrev pub up_to : {S : Type 0} → Layer S → List Instr → ℕ → List Instr
up_to L is k = L.front ++ grown L L.start (take k is)

-- where that begins which the instruction at a position becomes
abbrev pub place_in : {S : Type 0} → Layer S → List Instr → ℕ → ℕ
place_in L is k = length (up_to L is k)

abbrev pub before_of : {S : Type 0} → Layer S → S → Option Instr → List Instr
before_of L s None = []
before_of L s (Some i) = L.before s i

-- where that stands which is in the place of the instruction at a position
abbrev pub own_place_in : {S : Type 0} → Layer S → List Instr → ℕ → ℕ
own_place_in L is k = place_in L is k + length (before_of L (state_at L is k) (slice_get is k))

-- ---- one layer behind another

abbrev pub here_of : {S : Type 0} → Layer S → S → Option Instr → Option Instr
here_of L s None = None
here_of L s (Some i) = L.here s i

abbrev pub behind_of : {S : Type 0} → Layer S → S → Option Instr → List Instr
behind_of L s None = []
behind_of L s (Some i) = L.behind s i

abbrev pub after_of : {S : Type 0} → Layer S → S → Option Instr → S
after_of L s None = s
after_of L s (Some i) = L.after s i

-- the state of the second layer, where the instruction itself is met
abbrev pub met : {S T : Type 0} → Layer S → Layer T → S → T → Instr → T
met L M s t i = passed M t (L.before s i)

abbrev pub both : {S T : Type 0} → Layer S → Layer T → Layer (S × T)
both L M =
    record {
      front = M.front ++ grown M M.start L.front;
      start = (L.start, passed M M.start L.front);
      before = λ x i. grown M x.1 (L.before x.0 i) ++ before_of M (met L M x.0 x.1 i) (L.here x.0 i);
      here = λ x i. here_of M (met L M x.0 x.1 i) (L.here x.0 i);
      behind = λ x i.
          behind_of M (met L M x.0 x.1 i) (L.here x.0 i)
          ++ grown M (after_of M (met L M x.0 x.1 i) (L.here x.0 i)) (L.behind x.0 i);
      after = λ x i. (L.after x.0 i, passed M x.1 (becomes L x.0 i));
      back = λ x. grown M x.1 (L.back x.0) ++ M.back (passed M x.1 (L.back x.0));
      term = λ x t. M.term (passed M x.1 (L.back x.0)) (L.term x.0 t);
    }

-- ---- simple layers

-- the instructions that fail a test go
abbrev pub only : (Instr → Bool) → Layer (Unit {0})
only test =
    record {
      front = [];
      start = tt;
      before = λ s i. [];
      here = λ s i. if test i then Some i else None;
      behind = λ s i. [];
      after = λ s i. tt;
      back = λ s. [];
      term = λ s t. t;
    }

-- each instruction becomes another
abbrev pub each : (Instr → Instr) → Layer (Unit {0})
each turned =
    record {
      front = [];
      start = tt;
      before = λ s i. [];
      here = λ s i. Some (turned i);
      behind = λ s i. [];
      after = λ s i. tt;
      back = λ s. [];
      term = λ s t. t;
    }

-- instructions more in front
abbrev pub led_by : {S : Type 0} → List Instr → Layer S → Layer S
led_by is L = record L { front = is ++ L.front }

-- ---- instructions that a pass leaves as they are, and its state too

pub record IsIdle {S : Type 0} (L : Layer S) (i : Instr) : Type 0 where
  pub stays : (s : S) → becomes L s i ≡ i ∷ []
  pub state : (s : S) → L.after s i ≡ s
