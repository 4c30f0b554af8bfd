-- Numbers, and tests of them.
use Rattle.std.proofs.Common.{◌≡◌, ℕ, ◌+◌, ◌-◌, ◌<◌, min, arith, Some, refl, Bool, List, sym, ap, ◌∙◌, subst}
use Rattle.std.specs.Prelude.{Ok, Result, slice_get, None, Some, Option, option_map, map}
use Rattle.run_laws.specs.ir_base.declared.cause.Cause.{Cause}
use Rattle.run_laws.specs.ir_model.declared.instr.Phi.{Phi}
use Rattle.run_laws.specs.ir_model.Names.{position_of}
use Rattle.run_laws.specs.ir_model.declared.instr.Incoming.{Incoming}
use Rattle.run_laws.specs.ir_model.declared.module.Block.{Block}
use Rattle.run_laws.specs.ir_model.declared.module.Function.{Function}
use Rattle.run_laws.specs.ir_model.declared.operand.Operand.{Operand}
use Rattle.pass_front.specs.Front.{allocas_first}
use Rattle.std.proofs.lemmas.Option.{slice_get-map}
use Rattle.run_laws.specs.ir_base.declared.name.Name.{Name}
use Rattle.run_laws.specs.ir_model.declared.module.Module.{Module}
use Rattle.ir_laws.specs.facts.same_names.Same.{HaveSameNames, naming}
use Rattle.ir_laws.specs.facts.same_names.Short.{HaveShortNames, IsShort}
use Rattle.ir_laws.specs.facts.function_rules.Signatures.{heading}

pub ok_same : {A : Type 0} (a b : A) → ◌≡◌ {A = Result A Cause} (Ok a) (Ok b) → a ≡ b
ok_same a b e = cc

abbrev pub phi_name : Phi → ℕ
phi_name p = p.result

-- ---- what is added is a word of 64 bits

pub min_small : (n b : ℕ) → min n b < b + 1
min_small n b = omega arith

-- ---- the uses on an edge, by what takes them

-- an operand of a phi of a block, for a label of another one
pub record IsTakenBy (h : Function) (v from to : ℕ) : Type 0 where
  pub block : Block
  pub got : slice_get h.blocks to ≡ Some block
  pub at : ℕ
  pub phi : Phi
  pub stands : slice_get block.phis at ≡ Some phi
  pub index : ℕ
  pub incoming : Incoming
  pub there : slice_get phi.incoming index ≡ Some incoming
  pub source : position_of h incoming.from ≡ from
  pub value : incoming.value ≡ Operand.Local v

-- ---- blocks

-- a block of the one is that of the other, or its allocas stand first
pub data IsSource (b : Block) : Block → Type 0 where
  Same : IsSource b b
  First : IsSource b (allocas_first b)

pub same_term : (b c : Block) → IsSource b c → (c.term ≡ b.term) × ((c.phis ≡ b.phis) × (c.label ≡ b.label))
same_term b _ Same = (refl, (refl, refl))
same_term b _ First = (refl, (refl, refl))

pub names_stay_short : (m n : Module) → HaveSameNames m n → HaveShortNames m → HaveShortNames n
names_stay_short m n h short k g there =
    on (slice_get m.functions k) refl
    (sym (slice_get-map naming m.functions k) ∙ ap (λ (xs : List (Name × Bool)). slice_get xs k) (sym h.functions) ∙ slice_get-map naming n.functions k ∙ ap (option_map naming) there)
  where
    on : (o : Option Function) → slice_get m.functions k ≡ o → option_map naming o ≡ Some (naming g) → IsShort g.name
    on None e d = absurd (cc)
    on (Some f) e d =
        let same : naming f ≡ naming g = cc in
        subst IsShort (ap (λ (x : Name × Bool). x.0) same) (short k f e)

abbrev pub label_of : Block → ℕ
label_of b = b.label

pub data Source : Type 0 where
  Head : Source
  Of : ℕ → Source
  Last : Source

-- name, result, parameters and the mark of a coroutine are the same
pub record IsHeadedAs (f g : Function) : Type 0 where
  pub name : g.name ≡ f.name
  pub result : g.result ≡ f.result
  pub params : g.params ≡ f.params
  pub coroutine : g.coroutine ≡ f.coroutine

pub naming_stays : (f g : Function) → IsHeadedAs f g → naming g ≡ naming f
naming_stays f g h = ap (λ (n : Name). (n, g.coroutine)) h.name ∙ ap (λ (b : Bool). (f.name, b)) h.coroutine

pub heading_stays : (f g : Function) → IsHeadedAs f g → heading g ≡ heading f
heading_stays f g h =
    ap (λ n. record { name = n; result = g.result; params = map (λ p. p.ty) g.params }) h.name
    ∙ ap (λ r. record { name = f.name; result = r; params = map (λ p. p.ty) g.params }) h.result
    ∙ ap (λ ps. record { name = f.name; result = f.result; params = map (λ p. p.ty) ps }) h.params
