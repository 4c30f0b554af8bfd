-- The end of a block: loads for phis and for the terminator, and then addresses for both, are executed in a row. It is
-- said of any two tables, and of the functions before the passes that fetch by them.
use Rattle.std.specs.Prelude.{◌<◌, ◌≤◌, ℕ, List, ◌++◌, length, map, Option}
use Rattle.pass_proofs.specs.ir_model.declared.instr.Instr.{Instr}
use Rattle.pass_proofs.specs.ir_model.declared.instr.Phi.{Phi}
use Rattle.pass_proofs.specs.ir_model.declared.module.Function.{Function}
use Rattle.pass_proofs.specs.ir_model.declared.operand.Operand.{Operand}
use Rattle.pass_proofs.specs.pass_fetch.Blocks.{end_at, next_after_phis_by}
use Rattle.pass_proofs.specs.pass_fetch.Fetching.{fetches_of_all, next_after_all}
use Rattle.pass_proofs.specs.pass_fetch.declared.fetch.Fetch.{Fetch}
use Rattle.pass_frames_code.specs.Distances.{IsBelow, SetsFrom}
use Rattle.pass_frames_code.specs.Fetched.{AreSeenAs, CanFetch}
use Rattle.pass_frames_code.specs.Led.{IsTwiceFor, seen_twice}
use Rattle.pass_frames_code.specs.Passes.{phi_ends}
use Rattle.pass_frames_code.specs.Phis.{AreBlocksSeen, CanAllComeFrom}
use Rattle.pass_proofs.specs.run_laws.access.Lines.{Runs}
use Rattle.pass_proofs.specs.run_laws.changed.Changed.{Each}
use Rattle.pass_proofs.specs.run_laws.memory.Pointers.{Home}
use Rattle.pass_proofs.specs.run_memory.declared.pointer.Value.{Value}
use Rattle.pass_proofs.specs.run_step.Step.{Context, Work, incoming_from}

-- what stands at the end: f is the function whose kept operands are loaded, and h the one whose addresses are made
abbrev pub end_line : (t u : List (Option Fetch)) → (f h : Function) → (label n m : ℕ) → (xs ys : List Operand)
    → List Instr
end_line t u f h label n m xs ys =
    (end_at (phi_ends f t) label ++ fetches_of_all t n xs) ++ (end_at (phi_ends h u) label ++ fetches_of_all u m ys)

-- What is asked where the end of a block begins. What is loaded and what addresses are made can be, also behind
-- what is
-- set on the way. Their names are one behind another.
pub record MayEnd (t u : List (Option Fetch)) (given reached : ℕ → Value) (c : Context) (f h : Function)
    (label n m : ℕ) (xs ys : List Operand) (w : Work) : Type 0 where
  pub label_low : label < length f.names
  pub names : length f.names ≤ length h.names
  pub loads : CanAllComeFrom t given (length f.names) c w label f.blocks
  pub loads_before : next_after_phis_by t (length f.names) f.blocks ≤ n
  pub end_loads : (z : Work) → SetsFrom (length f.names) w z → Each (CanFetch t given n c z) xs
  pub end_below : Each (IsBelow n) xs
  pub end_room : next_after_all t n xs ≤ length w.values
  pub addresses : (z : Work) → SetsFrom (length f.names) w z
      → CanAllComeFrom u reached (length h.names) c z label h.blocks
  pub addresses_before : next_after_phis_by u (length h.names) h.blocks ≤ m
  pub end_addresses : (z : Work) → SetsFrom (length f.names) w z → Each (CanFetch u reached m c z) ys
  pub loaded_below : Each (IsBelow m) ys
  pub loaded_room : next_after_all u m ys ≤ length w.values

-- It is executed and sets new names alone. Phis that are entered from here, and the terminator, get what is seen of
-- their operands.
pub record Ends (t u : List (Option Fetch)) (given reached : ℕ → Value) (c : Context) (f h : Function)
    (label n m : ℕ) (xs ys : List Operand) (w : Work) : Type 0 where
  -- behind the loads for phis, those for the terminator, the addresses for phis, and all
  pub first : Work
  pub loaded : Work
  pub third : Work
  pub work : Work
  pub runs : Runs c (end_line t u f h label n m xs ys) w work
  pub along_first : SetsFrom (length f.names) w first
  pub along_loaded : SetsFrom (length f.names) w loaded
  pub along_third : SetsFrom (length f.names) w third
  pub on_third : SetsFrom (length h.names) loaded third
  pub along : SetsFrom (length f.names) w work
  pub loads_seen : AreBlocksSeen t given c w loaded label (length f.names) f.blocks
  pub addresses_seen : AreBlocksSeen u reached c loaded work label (length h.names) h.blocks
  pub end_loaded : AreSeenAs t given c first loaded n xs
  pub end_reached : AreSeenAs u reached c third work m ys

-- ---- what phis get from a label over both tables

abbrev pub phis_twice : (t u : List (Option Fetch)) → (given reached : ℕ → Value) → Context → Work → ℕ → List Phi
    → List (ℕ × Value)
phis_twice t u given reached c w label ps =
    map (λ (p : Phi). (p.result, seen_twice t u given reached c w p.ty (incoming_from p.incoming label))) ps

-- it stands for what they get in the source, by names below a bound
pub record IsPhiTwice (homes : List Home) (t u : List (Option Fetch)) (given reached : ℕ → Value) (c d : Context)
    (w y : Work) (label bound : ℕ) (p : Phi) : Type 0 where
  pub low : p.result < bound
  pub stands : IsTwiceFor homes t u given reached c d w y (incoming_from p.incoming label)
