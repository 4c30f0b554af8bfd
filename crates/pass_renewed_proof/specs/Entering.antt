-- What a resumed activation has done when it has made a slot anew.
use Rattle.std.specs.Prelude.{ℕ, Bool, true, List, [], length, Some, None, ◌≡◌, ◌+◌, ◌∷◌, ◌==◌, if◌then◌else◌}
use Rattle.std.specs.List.{list_any}
use Rattle.pass_kept_proof.specs.run_memory.Memory.{fresh}
use Rattle.pass_kept_proof.specs.run_source.State.{function_of}
use Rattle.pass_kept_proof.specs.run_source.declared.state.State.{State}
use Rattle.pass_kept_proof.specs.run_source.declared.state.Mode.{Mode}
use Rattle.run_framed.specs.Framed.{at_point, with_mode}
use Rattle.pass_kept_proof.specs.ir_model.Layout.{size_of}
use Rattle.pass_kept_proof.specs.ir_model.Ty.{Ty}
use Rattle.pass_kept_proof.specs.ir_model.declared.instr.Instr.{Instr}
use Rattle.pass_kept_proof.specs.ir_model.declared.module.Function.{Function}
use Rattle.pass_kept_proof.specs.run_step.Step.{AtInstr, alloca_kind, fetch, is_alignment}
use Rattle.pass_kept_proof.specs.run_step.Values.{pointer_to, with_value}
use Rattle.pass_renewed_proof.specs.Renewed.{RenewedGiven, renewed_from}

-- there is one live block more, whose address the alloca gives, and which is the activation's own
abbrev pub made_anew : RenewedGiven → State → ℕ → Ty → ℕ → State
made_anew g s a ty align =
    let block = length s.world.memory in
    record s {
      world = record s.world {
        memory = fresh s.world.memory (size_of g.given.code ty) align (alloca_kind (function_of
            g.given s));
      };
      top = record s.top {
        at = s.top.at + 1;
        values = with_value s.top.values a (pointer_to block);
        slots = record { alloca = a; block = block } ∷ s.top.slots;
      };
    }

-- ---- all slots of a function

-- an alloca of the entry block
pub record Anew : Type 0 where
  pub name : ℕ
  pub at : ℕ
  pub ty : Ty
  pub align : ℕ

-- these are the flagged allocas of the entry block from a position on, with alignments that there are
abbrev pub AreNext : (ℕ → Bool) → Function → ℕ → List Anew → Type 0
AreNext flags f at [] = renewed_from flags f at ≡ None
AreNext flags f at (x ∷ xs) =
    (renewed_from flags f at ≡ Some (record {
      block = 0;
      at = x.at;
    })) × (fetch f 0 x.at ≡ AtInstr (Instr.Alloca x.name x.ty x.align)) × (flags x.name ≡ true)
    × (is_alignment x.align ≡ true) × AreNext flags f (x.at + 1) xs

-- one after another
abbrev pub made_all : RenewedGiven → ℕ → ℕ → State → List Anew → State
made_all g from label s [] = s
made_all g from label s (x ∷ xs) =
    made_all g from label (made_anew g (at_point (with_mode s (Mode.Entering from label)) (record {
      block = 0;
      at = x.at;
    })) x.name x.ty x.align) xs

abbrev pub is_named : List Anew → ℕ → Bool
is_named xs v = list_any (λ x. x.name == v) xs

-- ---- those of an entry block

abbrev pub if_renewed : (ℕ → Bool) → ℕ → Instr → List Anew → List Anew
if_renewed flags at (Instr.Alloca name ty align) xs =
    if flags name then record { name = name; at = at; ty = ty; align = align } ∷ xs else xs
if_renewed flags at _ xs = xs

-- the flagged allocas among instructions, the first of which stands at a position
abbrev pub anew_in : (ℕ → Bool) → ℕ → List Instr → List Anew
anew_in flags at [] = []
anew_in flags at (i ∷ instrs) = if_renewed flags at i (anew_in flags (at + 1) instrs)

-- what they cost, each by its place
abbrev pub price_of_all : (ℕ → ℕ) → List Anew → ℕ
price_of_all price [] = 0
price_of_all price (x ∷ xs) = price x.at + price_of_all price xs

-- nothing else than an alignment is written at a flagged alloca of the entry block
abbrev pub AreAligned : (ℕ → Bool) → Function → Type 0
AreAligned flags f = (a k : ℕ) (ty : Ty) (align : ℕ) → flags a ≡ true → fetch f 0 k ≡ AtInstr (Instr.Alloca a ty align)
    → is_alignment align ≡ true
