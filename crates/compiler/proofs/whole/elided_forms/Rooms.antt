-- The frames that a function gives are those of layouts.
use Rattle.std.proofs.Common.{◌≡◌, ℕ, zero, suc, ◌+◌, Bool, true, false, cond, List, [], ◌∷◌, ◌++◌, length, refl, sym, ap, ◌∙◌, subst, Option, Some, None}
use Rattle.std.specs.Prelude.{find, option_and_then, option_map, slice_get, if◌then◌else◌, ◌==◌}
use Rattle.compiler.specs.whole.elided_forms.Sites.{MayBeGiven}
use Rattle.frame_layout.specs.declared.layout.Layout.{Layout}
use Rattle.frame_layout.specs.declared.layout.Layouts.{Layouts}
use Rattle.ir_base.specs.declared.name.Name.{Name}
use Rattle.ir_base.specs.declared.outcome.Place.{Place}
use Rattle.ir_model.specs.Names.{function_named}
use Rattle.ir_model.specs.Ty.{Ty}
use Rattle.ir_model.specs.declared.instr.Instr.{Instr}
use Rattle.ir_model.specs.declared.module.Block.{Block}
use Rattle.ir_model.specs.declared.module.Module.{Module}
use Rattle.ir_model.specs.declared.operand.Arg.{Arg}
use Rattle.ir_model.specs.declared.operand.Callee.{Callee}
use Rattle.pass_elide.specs.Elided.{block_frames, blocks_frames, frames_by, instr_frames}
use Rattle.pass_elide.specs.Frames.{callee_layout, frame_of, layout_of, site_frame}
use Rattle.pass_elide.specs.Places.{is_site}
use Rattle.pass_elide.specs.declared.given.GivenFrame.{GivenFrame}
use Rattle.pass_elide.specs.declared.places.CallPlace.{CallPlace}
use Rattle.pass_proofs.proofs.ir_laws.facts.Members.{each_joined}
use Rattle.pass_proofs.proofs.ir_laws.facts.Truth.{equal_numbers}
use Rattle.pass_proofs.specs.rule_locals.Extents.{is_aligned, is_sized}
use Rattle.pass_proofs.specs.run_laws.changed.Changed.{Each}

-- an alloca of a plain module
pub record IsAllocaFrame (r : GivenFrame) : Type 0 where
  pub size : ℕ
  pub align : ℕ
  pub is : r ≡ GivenFrame.Alloca size align
  pub sized : is_sized 16777216 size ≡ true
  pub aligned : is_aligned align ≡ true

-- ---- all frames of a function

module _ (frame : ℕ → ℕ → Instr → Option GivenFrame)
    (fit : (block at : ℕ) (i : Instr) (r : GivenFrame) → frame block at i ≡ Some r → IsAllocaFrame r) where
  one_fits : (o : Option GivenFrame) → ((r : GivenFrame) → o ≡ Some r → IsAllocaFrame r)
      → Each IsAllocaFrame (frames_by o)
  one_fits None h = tt
  one_fits (Some r) h = (h r refl, tt)

  instrs_fit : (block at : ℕ) (is : List Instr) → Each IsAllocaFrame (instr_frames (frame block) at is)
  instrs_fit block at [] = tt
  instrs_fit block at (i ∷ is) =
      each_joined IsAllocaFrame (frames_by (frame block at i)) (instr_frames (frame block) (at + 1) is)
      (one_fits (frame block at i) (fit block at i)) (instrs_fit block (at + 1) is)

  pub rooms_fit : (block : ℕ) (bs : List Block) → Each IsAllocaFrame (blocks_frames frame block bs)
  rooms_fit block [] = tt
  rooms_fit block (b ∷ bs) =
      each_joined IsAllocaFrame (block_frames frame block b) (blocks_frames frame (block + 1) bs)
      (instrs_fit block (length b.phis) b.instrs) (rooms_fit (block + 1) bs)

-- ---- a site's frame is that of its callee's layout

pub record IsFound (ls : List Layout) (func : ℕ) (l : Layout) : Type 0 where
  pub position : ℕ
  pub stands : slice_get ls position ≡ Some l
  pub coroutine : l.coroutine ≡ func

found_layout : (ls : List Layout) (func : ℕ) (l : Layout) → layout_of ls func ≡ Some l → IsFound ls func l
found_layout [] func l e = absurd (cc)
found_layout (x ∷ ls) func l e = on (x.coroutine == func) refl (λ h. found_layout ls func l h) e
  where
    on : (b : Bool) → (x.coroutine == func) ≡ b → (layout_of ls func ≡ Some l → IsFound ls func l)
        → cond b (Some x) (layout_of ls func) ≡ Some l → IsFound (x ∷ ls) func l
    on true h more d =
        let same : x ≡ l = cc in
        record {
          position = 0;
          stands = ap (λ (y : Layout). Some y) same;
          coroutine = ap (λ (y : Layout). y.coroutine) (sym same) ∙ equal_numbers x.coroutine func h;
        }
    on false h more d =
        let r = more d in record { position = suc r.position; stands = r.stands; coroutine = r.coroutine }

-- a call that gives its callee a frame: of a function whose layout has the frame's size and alignment
pub record IsGivenAt (m : Module) (ls : List Layout) (sites : List Place) (func block at : ℕ) (i : Instr)
    (r : GivenFrame) : Type 0 where
  pub result : Option ℕ
  pub must_tail : Bool
  pub ty : Option Ty
  pub name : Name
  pub args : List Arg
  pub is : i ≡ Instr.Call result must_tail ty (Callee.Named name) args
  pub callee : ℕ
  pub named : function_named m name ≡ Some callee
  pub layout : Layout
  pub found : IsFound ls callee layout
  pub frame : r ≡ frame_of layout
  pub site : is_site sites (record { func = func; block = block; at = at }) ≡ true

module _ (m : Module) (ls : List Layout) (sites : List Place) (func block at : ℕ) (r : GivenFrame) where
  by_layout : (i : Instr) (x : Name) (result : Option ℕ) (must_tail : Bool) (ty : Option Ty) (args : List Arg)
      → i ≡ Instr.Call result must_tail ty (Callee.Named x) args
      → is_site sites (record { func = func; block = block; at = at }) ≡ true → (o : Option ℕ) → function_named m x ≡ o
      → option_map frame_of (option_and_then (layout_of ls) o) ≡ Some r → IsGivenAt m ls sites func block at i r
  by_layout i x result must_tail ty args is site None e d = absurd (cc)
  by_layout i x result must_tail ty args is site (Some k) e d = on (layout_of ls k) refl d
    where
      on : (p : Option Layout) → layout_of ls k ≡ p → option_map frame_of p ≡ Some r
          → IsGivenAt m ls sites func block at i r
      on None h c = absurd (cc)
      on (Some l) h c =
          let same : frame_of l ≡ r = cc in
          record {
            result = result;
            must_tail = must_tail;
            ty = ty;
            name = x;
            args = args;
            is = is;
            callee = k;
            named = e;
            layout = l;
            found = found_layout ls k l h;
            frame = sym same;
            site = site;
          }

  by_instr : (i : Instr) → is_site sites (record { func = func; block = block; at = at }) ≡ true
      → option_map frame_of (callee_layout m ls i) ≡ Some r → IsGivenAt m ls sites func block at i r
  by_instr (Instr.Call result must_tail ty (Callee.Named x) args) site e =
      by_layout (Instr.Call result must_tail ty (Callee.Named x) args) x result must_tail ty args refl site
      (function_named m x) refl e
  by_instr _ site e = absurd (cc)

  pub given_at : (i : Instr) → site_frame m ls sites func block at i ≡ Some r → IsGivenAt m ls sites func block at i r
  given_at i e = on (is_site sites (record { func = func; block = block; at = at })) refl e
    where
      on : (b : Bool) → is_site sites (record { func = func; block = block; at = at }) ≡ b
          → (if b then option_map frame_of (callee_layout m ls i) else None) ≡ Some r
          → IsGivenAt m ls sites func block at i r
      on true h d = by_instr i h d
      on false h d = absurd (cc)

pub site_fits : (layouts : Layouts) (sites : List Place) (m : Module) → MayBeGiven layouts m
    → (func block at : ℕ) (i : Instr) (r : GivenFrame) → site_frame m layouts.coroutines sites func block at i ≡ Some r
    → IsAllocaFrame r
site_fits layouts sites m may func block at i r e =
    let x = given_at m layouts.coroutines sites func block at r i e in
    record {
      size = x.layout.size;
      align = x.layout.align;
      is = x.frame;
      sized = may.sizes x.found.position x.layout x.found.stands;
      aligned = may.aligns x.found.position x.layout x.found.stands;
    }
