-- The tokens that suspends take, by the calls by which a function is a coroutine.
use Rattle.std.proofs.Common.{◌≡◌, ℕ, Bool, true, false, List, [], ◌∷◌, ◌++◌, append_assoc, refl, sym, ap, ◌∙◌}
use Rattle.std.specs.Prelude.{flat_map, map, option_to_list, if◌then◌else◌}
use Rattle.pass_intrinsics.specs.Shapes.{is_true, token_of}
use Rattle.pass_intrinsics.specs.declared.shape.SuspendPoint.{SuspendPoint}
use Rattle.ir_laws.specs.ir_model.declared.module.Block.{Block}
use Rattle.ir_laws.specs.ir_model.declared.module.Function.{Function}
use Rattle.ir_laws.specs.ir_paths.Windows.{label_of_term}
use Rattle.rule_laws.specs.frames.replaced.Splittable.{token_taken, tokens_taken}
use Rattle.rule_laws.proofs.frames.woven_shape.Suspends.{point_of, points, points_by, suspends_found}
use Rattle.rule_laws.specs.rules.woven_shape.Calls.{ShapingCall, calls_of_block, is_suspend_call, joined, shaping_calls}

abbrev pub taken : ShapingCall → List ℕ
taken c = if is_suspend_call c then option_to_list (token_of c.first) else []

one_taken : (b : Block) (c : ShapingCall) (rest : List SuspendPoint) → flat_map token_taken (point_of b c ++ rest) ≡ taken c ++ flat_map token_taken rest
one_taken b c rest = on (is_suspend_call c)
  where
    p : SuspendPoint
    p = record { save = token_of c.first; is_final = is_true c.second; block = b.label; resume = label_of_term 0 b.term; destroy = label_of_term 1 b.term }

    on : (t : Bool) → flat_map token_taken ((if t then p ∷ [] else []) ++ rest) ≡ (if t then option_to_list (token_of c.first) else []) ++ flat_map token_taken rest
    on true = refl
    on false = refl

block_taken : (b : Block) (cs : List ShapingCall) (rest : List SuspendPoint) → flat_map token_taken (points b cs ++ rest) ≡ flat_map taken cs ++ flat_map token_taken rest
block_taken b [] rest = refl
block_taken b (c ∷ cs) rest =
    ap (flat_map token_taken) (append_assoc (point_of b c) (points b cs) rest)
    ∙ one_taken b c (points b cs ++ rest)
    ∙ ap (λ (ns : List ℕ). taken c ++ ns) (block_taken b cs rest)
    ∙ sym (append_assoc (taken c) (flat_map taken cs) (flat_map token_taken rest))

taken_joined : (cs ds : List ShapingCall) → flat_map taken (cs ++ ds) ≡ flat_map taken cs ++ flat_map taken ds
taken_joined [] ds = refl
taken_joined (c ∷ cs) ds = ap (λ (ns : List ℕ). taken c ++ ns) (taken_joined cs ds) ∙ sym (append_assoc (taken c) (flat_map taken cs) (flat_map taken ds))

blocks_taken : (bs : List Block) → flat_map token_taken (points_by bs) ≡ flat_map taken (joined (map calls_of_block bs))
blocks_taken [] = refl
blocks_taken (b ∷ bs) =
    block_taken b (calls_of_block b) (points_by bs)
    ∙ ap (λ (ns : List ℕ). flat_map taken (calls_of_block b) ++ ns) (blocks_taken bs)
    ∙ sym (taken_joined (calls_of_block b) (joined (map calls_of_block bs)))

pub tokens_found : (f : Function) → tokens_taken f ≡ flat_map taken (shaping_calls f)
tokens_found f = ap (flat_map token_taken) (suspends_found f) ∙ blocks_taken f.blocks

pub same_tokens : (f g : Function) → shaping_calls g ≡ shaping_calls f → tokens_taken g ≡ tokens_taken f
same_tokens f g same = tokens_found g ∙ ap (flat_map taken) same ∙ sym (tokens_found f)
