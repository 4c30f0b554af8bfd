-- Framed modules with given frames whose parts disagree with them: elision has to make none of these.
use Rattle.std.specs.Prelude.{◌≡◌, ℕ, Bool, true, false, List, [], ◌∷◌, ◌++◌, codes, pos, None, Some, Option}
use Rattle.pass_proofs.specs.frame_layout.declared.layout.FieldKind.{FieldKind}
use Rattle.pass_proofs.specs.frame_layout.declared.layout.Layout.{Layout}
use Rattle.pass_proofs.specs.frame_layout.declared.layout.Layouts.{Layouts}
use Rattle.pass_proofs.specs.ir_base.declared.name.Name.{Name}
use Rattle.pass_proofs.specs.ir_base.declared.ops.Pred.{Pred}
use Rattle.pass_proofs.specs.ir_base.declared.outcome.Outcome.{Outcome}
use Rattle.pass_proofs.specs.ir_model.Ty.{Ty, array, int, ptr, token}
use Rattle.pass_proofs.specs.ir_model.declared.instr.Instr.{Instr}
use Rattle.pass_proofs.specs.ir_model.declared.instr.Terminator.{Terminator}
use Rattle.pass_proofs.specs.ir_model.declared.module.Block.{Block}
use Rattle.pass_proofs.specs.ir_model.declared.module.Function.{Function}
use Rattle.pass_proofs.specs.ir_model.declared.module.Module.{Module}
use Rattle.pass_proofs.specs.ir_model.declared.operand.Arg.{Arg}
use Rattle.pass_proofs.specs.ir_model.declared.operand.Callee.{Callee}
use Rattle.pass_proofs.specs.ir_model.declared.operand.Intrinsic.{Intrinsic}
use Rattle.pass_proofs.specs.ir_model.declared.operand.Operand.{Operand}
use Rattle.pass_proofs.specs.pass_split.Parts.{split_module}
use Rattle.pass_proofs.specs.run_framed.Framed.{FramedAt, framed_given, framed_state_at}
use Rattle.run_access_worked.specs.run_plain.Plain.{PlainAt, plain_state_at}
use Rattle.pass_proofs.specs.run_step.Runs.{Seen}

-- ---- instructions

abbrev pub text : List ℕ → Name
text letters = Name.Text letters

abbrev pub number : ℕ → ℕ → Arg
number width n = record { ty = int width; value = Operand.Number (pos n) }

abbrev pub pointer : ℕ → Arg
pointer name = record { ty = ptr; value = Operand.Local name }

abbrev pub intrinsic : Option ℕ → Option Ty → Intrinsic → List Arg → Instr
intrinsic result ty i args = Instr.Call result false ty (Callee.Intrinsic i) args

abbrev pub print : ℕ → ℕ → Instr
print width name = Instr.Call None false None (Callee.Named (text (codes "print")))
    (record { ty = int width; value = Operand.Local name } ∷ [])

-- a byte at 16 behind an address, with a name for where it lies
abbrev pub behind_header : ℕ → ℕ → Instr
behind_header name base = Instr.Gep name false (int 8) (Operand.Local base) (number 64 16 ∷ [])

-- ---- coroutines, by what stands behind their begin and behind a resume

abbrev pub begun : List Instr
begun =
    intrinsic (Some 2) (Some token) Intrinsic.CoroId (number 32 0 ∷ record { ty = ptr; value = Operand.Null }
    ∷ record { ty = ptr; value = Operand.Null } ∷ record { ty = ptr; value = Operand.Null } ∷ [])
    ∷ intrinsic (Some 3) (Some ptr) Intrinsic.CoroBegin (record { ty = token; value = Operand.Local 2 }
    ∷ record { ty = ptr; value = Operand.Null } ∷ [])
    ∷ []

abbrev pub saved : List Instr
saved =
    intrinsic (Some 4) (Some token) Intrinsic.CoroSave (pointer 3 ∷ [])
    ∷ intrinsic (Some 5) (Some (int 8)) Intrinsic.CoroSuspend (record { ty = token; value = Operand.Local 4 }
    ∷ record { ty = int 1; value = Operand.False } ∷ [])
    ∷ []

abbrev pub suspending : ℕ → List Instr → Block
suspending label body =
    record {
      label = label;
      phis = [];
      instrs = begun ++ body ++ saved;
      term = Terminator.Switch (record { ty = int 8; value = Operand.Local 5 }) 6
          (record { arg = number 8 0; target = 7 } ∷ record { arg = number 8 1; target = 8 } ∷ []);
    }

abbrev pub going_on : List Instr → List Block
going_on resumed =
    record { label = 7; phis = []; instrs = resumed; term = Terminator.Jump 6 }
    ∷ record { label = 8; phis = []; instrs = []; term = Terminator.Jump 6 }
    ∷ record {
      label = 6;
      phis = [];
      instrs = intrinsic (Some 9) (Some (int 1)) Intrinsic.CoroEnd (pointer 3
          ∷ record { ty = int 1; value = Operand.False } ∷ record { ty = token; value = Operand.None } ∷ []) ∷ [];
      term = Terminator.Ret (Some (pointer 3));
    }
    ∷ []

abbrev pub named : List ℕ → List Block → Function
named letters blocks =
    record {
      name = text letters;
      result = Some ptr;
      params = [];
      coroutine = true;
      blocks = blocks;
      names =
          text (codes "p") ∷ text (codes "entry") ∷ text (codes "id") ∷ text (codes "h") ∷ text (codes "k")
          ∷ text (codes "s") ∷ text (codes "end") ∷ text (codes "r") ∷ text (codes "clean") ∷ text (codes "e")
          ∷ text (codes "v") ∷ text (codes "go") ∷ text (codes "early") ∷ [];
    }

abbrev pub a_coroutine : List ℕ → (body resumed : List Instr) → Function
a_coroutine letters body resumed = named letters (suspending 1 body ∷ going_on resumed)

-- ---- callers, which have a stack block of 32 bytes, and modules

abbrev pub give : ℕ → List ℕ → Instr
give name ramp = Instr.Call (Some name) false (Some ptr) (Callee.Named (text ramp)) (pointer 1 ∷ [])

abbrev pub main_of : List Instr → Function
main_of instrs =
    record {
      name = text (codes "main");
      result = Some (int 32);
      params = [];
      coroutine = false;
      blocks = record {
        label = 0;
        phis = [];
        instrs = Instr.Alloca 1 (array 32 (int 8)) 8 ∷ instrs;
        term = Terminator.Ret (Some (number 32 0));
      } ∷ [];
      names = text (codes "entry") ∷ text (codes "m") ∷ text (codes "p") ∷ text (codes "a") ∷ text (codes "b") ∷ [];
    }

abbrev pub module_of : ℕ → List Function → Module
module_of width functions =
    record {
      types = [];
      globals = [];
      declarations = record { name = text (codes "print"); result = None; params = int width ∷ [] } ∷ [];
      functions = functions;
    }

-- a frame of 32 bytes with its index at 16, and one with a value there
abbrev pub index_first : ℕ → Layout
index_first k =
    record {
      coroutine = k;
      size = 32;
      align = 8;
      index = 16;
      offsets = 16 ∷ [];
      fields = record { kind = FieldKind.Index; name = None; offset = 16; size = 1 } ∷ [];
    }

abbrev pub value_first : ℕ → Layout
value_first k =
    record {
      coroutine = k;
      size = 32;
      align = 8;
      index = 24;
      offsets = 16 ∷ 24 ∷ [];
      fields =
          record { kind = FieldKind.Value; name = None; offset = 16; size = 1 }
          ∷ record { kind = FieldKind.Index; name = None; offset = 24; size = 1 } ∷ [];
    }

abbrev pub layouts_of : List Layout → Layouts
layouts_of layouts = record { coroutines = layouts }

-- one call of print, and the entry has returned 0
abbrev pub printed : ℕ → ℕ → Seen
printed width n =
    record {
      events = record { name = text (codes "print"); args = record { width = width; bits = n } ∷ [] } ∷ [];
      outcome = Outcome.Returned (Some (record { width = 32; bits = 0 }));
      allocs = 0;
    }

abbrev pub is_undefined : Outcome → Bool
is_undefined (Outcome.Undefined cause place) = true
is_undefined outcome = false

-- ---- frames of two coroutines begin in one block, one behind the other

abbrev pub two_in_one : Module
two_in_one = module_of 8 (
    a_coroutine (codes "g") [] []
    ∷ a_coroutine (codes "h") (behind_header 0 3 ∷ Instr.Load 10 (int 8) (Operand.Local 0) 1 ∷ print 8 10 ∷ []) []
    ∷ main_of (behind_header 2 1 ∷ Instr.Store (number 8 7) (Operand.Local 2) 1 ∷ give 3 (codes "g.noalloc")
    ∷ intrinsic None None Intrinsic.CoroDestroy (pointer 3 ∷ []) ∷ give 4 (codes "h.noalloc")
    ∷ intrinsic None None Intrinsic.CoroDestroy (pointer 4 ∷ []) ∷ [])
    ∷ [])

abbrev pub two_layouts : Layouts
two_layouts = layouts_of (index_first 0 ∷ value_first 1 ∷ [])

-- the second frame's value is the caller's byte in one run, and the first frame's index in the other
pub record DisagreeOnIndex : Type 0 where
  pub framed : FramedAt two_in_one two_layouts 2 [] [] 60 ≡ printed 8 7
  pub plain : PlainAt (split_module two_layouts two_in_one) 10 [] [] 90 ≡ printed 8 0

-- ---- the block of a Suspended instance is started

abbrev pub started : Instr
started = intrinsic None None Intrinsic.LifetimeStart (number 64 32 ∷ pointer 1 ∷ [])

abbrev pub started_again : Module
started_again = module_of 8 (
    a_coroutine (codes "g") [] []
    ∷ main_of (started ∷ give 3 (codes "g.noalloc") ∷ started
    ∷ intrinsic None None Intrinsic.CoroResume (pointer 3 ∷ []) ∷ [])
    ∷ [])

abbrev pub one_layout : Layouts
one_layout = layouts_of (index_first 0 ∷ [])

-- the framed run has returned, and its parts call what the header no longer holds
pub record DisagreeOnStart : Type 0 where
  pub framed : (FramedAt started_again one_layout 1 [] [] 60).outcome
      ≡ Outcome.Returned (Some (record { width = 32; bits = 0 }))
  pub plain : is_undefined (PlainAt (split_module one_layout started_again) 5 [] [] 90).outcome ≡ true

-- ---- an instance that was resumed frees

abbrev pub freed_on_resume : Module
freed_on_resume = module_of 1 (
    a_coroutine (codes "g") [] (intrinsic (Some 10) (Some ptr) Intrinsic.CoroFree
    (record { ty = token; value = Operand.Local 2 } ∷ pointer 3 ∷ [])
    ∷ Instr.Icmp 0 Pred.Eq ptr (Operand.Local 10) Operand.Null ∷ print 1 0 ∷ [])
    ∷ main_of (give 3 (codes "g.noalloc") ∷ intrinsic None None Intrinsic.CoroResume (pointer 3 ∷ []) ∷ [])
    ∷ [])

-- it gives null in one run alone
pub record DisagreeOnFree : Type 0 where
  pub framed : FramedAt freed_on_resume one_layout 1 [] [] 60 ≡ printed 1 1
  pub plain : PlainAt (split_module one_layout freed_on_resume) 5 [] [] 90 ≡ printed 1 0

-- ---- a ramp returns before begin

abbrev pub returned_early : Module
returned_early = module_of 8 (
    named (codes "g") (record { label = 1; phis = []; instrs = []; term = Terminator.Branch Operand.False 11 12 }
    ∷ suspending 11 []
    ∷ record {
      label = 12;
      phis = [];
      instrs = [];
      term = Terminator.Ret (Some (record { ty = ptr; value = Operand.Null }));
    } ∷ going_on [])
    ∷ main_of (give 3 (codes "g.noalloc") ∷ [])
    ∷ [])

-- its call is counted, and no instance began
pub record DisagreeOnCount : Type 0 where
  pub framed : (framed_state_at (framed_given returned_early one_layout.coroutines []) 1 [] 20).instances ≡ []
  pub returned : (framed_state_at (framed_given returned_early one_layout.coroutines []) 1 [] 20).outcome
      ≡ Outcome.Returned (Some (record { width = 32; bits = 0 }))
  pub plain : (plain_state_at (record { code = split_module one_layout returned_early; answers = [] }) 5 [] 20).elided
      ≡ 1
  pub over : (plain_state_at (record { code = split_module one_layout returned_early; answers = [] }) 5 [] 20).outcome
      ≡ Outcome.Returned (Some (record { width = 32; bits = 0 }))
