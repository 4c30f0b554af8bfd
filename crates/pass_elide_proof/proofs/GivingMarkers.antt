-- A function whose calls give frames has the same markers, and puts no address in front of a call that gives an alloca.
use Rattle.std.proofs.Common.{◌≡◌, ◌+◌, ◌∙◌, ◌++◌, ◌||◌, ◌∷◌, [], ap, Bool, false, List, Option, refl, true, zero, suc, ℕ, length, if◌then◌else◌}
use Rattle.std.specs.List.{list_any}
use Rattle.std.specs.Prelude.{None, Some, option_map}
use Rattle.pass_elide.specs.Elided.{coroutine_frame, elided_blocks, elided_by, elided_function, elided_instrs, frame_allocas, frames_by, block_frames, function_frames, given_call, with_front}
use Rattle.pass_elide.specs.Frames.{callee_layout, frame_of, layout_of, site_frame}
use Rattle.pass_elide.specs.Places.{is_site}
use Rattle.pass_elide.specs.declared.given.GivenFrame.{GivenFrame}
use Rattle.pass_elide_proof.specs.Elision.{Elision, function_in, rooms}
use Rattle.pass_elide_proof.specs.Places.{Rooms, put_by, put_up_to}
use Rattle.pass_proofs.specs.frame_layout.declared.layout.Layout.{Layout}
use Rattle.pass_proofs.specs.ir_base.declared.outcome.Place.{Place}
use Rattle.pass_proofs.specs.ir_model.declared.instr.Instr.{Instr}
use Rattle.pass_proofs.specs.ir_model.declared.module.Block.{Block}
use Rattle.pass_proofs.specs.ir_model.declared.module.Function.{Function}
use Rattle.pass_proofs.specs.ir_model.declared.module.Module.{Module}
use Rattle.pass_proofs.specs.ir_model.declared.operand.Callee.{Callee}
use Rattle.pass_proofs.specs.run_step.Step.{has_markers, is_marker_of}

-- ---- markers

any_both : {A : Type 0} (test : A → Bool) (xs ys : List A)
    → list_any test (xs ++ ys) ≡ (list_any test xs || list_any test ys)
any_both test [] ys = refl
any_both test (x ∷ xs) ys = ap (λ (b : Bool). test x || b) (any_both test xs ys) ∙ onto (test x)
  where
    onto : (a : Bool) → (a || (list_any test xs || list_any test ys)) ≡ ((a || list_any test xs) || list_any test ys)
    onto true = refl
    onto false = refl

module _ (v : ℕ) where
  given_same : (n : ℕ) (i : Instr) → is_marker_of v (given_call n i) ≡ is_marker_of v i
  given_same n (Instr.Call result must_tail ty (Callee.Named g) args) = refl
  given_same n (Instr.Call result must_tail ty (Callee.Allocator a) args) = refl
  given_same n (Instr.Call result must_tail ty (Callee.Intrinsic j) args) = refl
  given_same n (Instr.Call result must_tail ty (Callee.Local u) args) = refl
  given_same n (Instr.Binary name op flags ty a b) = refl
  given_same n (Instr.Icmp name pred ty a b) = refl
  given_same n (Instr.Select name x a b) = refl
  given_same n (Instr.Cast name op nneg arg to) = refl
  given_same n (Instr.Alloca name ty align) = refl
  given_same n (Instr.Load name ty p align) = refl
  given_same n (Instr.Store arg p align) = refl
  given_same n (Instr.Gep name inbounds ty base indices) = refl

  one_same : (n : ℕ) (o : Option GivenFrame) (i : Instr)
      → list_any (is_marker_of v) (elided_by n o i) ≡ (is_marker_of v i || false)
  one_same n None i = refl
  one_same n (Some (GivenFrame.Alloca size align)) i = ap (λ (b : Bool). b || false) (given_same n i)
  one_same n (Some (GivenFrame.Field base distance)) i = ap (λ (b : Bool). b || false) (given_same n i)

  nothing : (a b : Bool) → ((a || false) || b) ≡ (a || b)
  nothing true b = refl
  nothing false b = refl

  instrs_same : (room : ℕ → Instr → Option GivenFrame) (at n : ℕ) (is : List Instr)
      → list_any (is_marker_of v) (elided_instrs room at n is) ≡ list_any (is_marker_of v) is
  instrs_same room at n [] = refl
  instrs_same room at n (i ∷ is) =
      any_both (is_marker_of v) (elided_by n (room at i) i)
      (elided_instrs room (at + 1) (length (frames_by (room at i)) + n) is)
      ∙ ((λ j. one_same n (room at i) i j || instrs_same room (at + 1) (length (frames_by (room at i)) + n) is j)
      ∙ nothing (is_marker_of v i) (list_any (is_marker_of v) is))

  abbrev marks : Block → Bool
  marks b = list_any (is_marker_of v) b.instrs

  blocks_same : (room : Rooms) (block n : ℕ) (bs : List Block)
      → list_any marks (elided_blocks room block n bs) ≡ list_any marks bs
  blocks_same room block n [] = refl
  blocks_same room block n (b ∷ bs) =
      λ j. instrs_same (room block) (length b.phis) n b.instrs j
      || blocks_same room (block + 1) (length (block_frames room block b) + n) bs j

  allocas_none : (n : ℕ) (rs : List GivenFrame) → list_any (is_marker_of v) (frame_allocas n rs) ≡ false
  allocas_none n [] = refl
  allocas_none n (GivenFrame.Alloca size align ∷ rs) = allocas_none (n + 1) rs
  allocas_none n (GivenFrame.Field base distance ∷ rs) = allocas_none (n + 1) rs

  front_same : (front : List Instr) (bs : List Block) → list_any (is_marker_of v) front ≡ false
      → list_any marks (with_front front bs) ≡ list_any marks bs
  front_same front [] none = refl
  front_same front (b ∷ bs) none =
      ap (λ (q : Bool). q || list_any marks bs) (any_both (is_marker_of v) front b.instrs
      ∙ ap (λ (q : Bool). q || list_any (is_marker_of v) b.instrs) none)

  pub markers_same : (room : Rooms) (f : Function) → has_markers (elided_function room f) v ≡ has_markers f v
  markers_same room f =
      front_same (frame_allocas (length f.names) (function_frames room f))
      (elided_blocks room 0 (length f.names) f.blocks) (allocas_none (length f.names) (function_frames room f))
      ∙ blocks_same room 0 (length f.names) f.blocks

-- ---- functions that are no coroutines

site_put : (m : Module) (ls : List Layout) (sites : List Place) (func block at : ℕ) (i : Instr)
    → put_by (site_frame m ls sites func block at i) ≡ 0
site_put m ls sites func block at i =
    on (is_site sites (record { func = func; block = block; at = at })) (callee_layout m ls i)
  where
    on : (b : Bool) (o : Option Layout) → put_by (if b then option_map frame_of o else None) ≡ 0
    on true None = refl
    on true (Some l) = refl
    on false o = refl

module _ (e : Elision) (func : ℕ) where
  -- no field is put in front of a call
  pub plain_put : (function_in e func).coroutine ≡ false → (block at : ℕ) (i : Instr)
      → put_by (rooms e func block at i) ≡ 0
  plain_put plain block at i =
      ap (λ (b : Bool). put_by ((if b then coroutine_frame (layout_of e.layouts.coroutines func) (function_in e func)
      else site_frame e.code e.layouts.coroutines e.sites func) block at i)) plain
      ∙ site_put e.code e.layouts.coroutines e.sites func block at i

pub nothing_put : (room : ℕ → Instr → Option GivenFrame) → ((at : ℕ) (i : Instr) → put_by (room at i) ≡ 0)
    → (at : ℕ) (is : List Instr) (k : ℕ) → put_up_to room at is k ≡ 0
nothing_put room none at [] k = refl
nothing_put room none at (i ∷ is) zero = none at i
nothing_put room none at (i ∷ is) (suc k) = λ j. none at i j + nothing_put room none (at + 1) is k j
