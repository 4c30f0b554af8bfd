-- Lists of instructions that are put in.
use Rattle.std.proofs.Common.{ℕ, List, [], ◌∷◌, ◌++◌}
use Rattle.std.specs.Prelude.{option_to_list}
use Rattle.rule_laws.proofs.rules.counted.Lists.{AreAmong}
use Rattle.rule_uses.specs.Uses.{made_by_instrs}
use Rattle.ir_parts.specs.Contents.{result_of}
use Rattle.ir_laws.specs.ir_model.declared.instr.Instr.{Instr}
use Rattle.ir_laws.specs.ir_model.declared.module.Function.{Function}
use Rattle.ir_laws.specs.ir_model.declared.module.Module.{Module}
use Rattle.ir_laws.specs.ir_model.declared.operand.Operand.{Operand}
use Rattle.rule_laws.specs.rules.woven_rules.Blocks.{AreWoven, Done, IsPutIn, Put}
use Rattle.rule_laws.specs.rules.woven_rules.Weaving.{Constant, Front, IsKnown, New, Old, Weaving}

-- all of these may be put in, one after the other
abbrev pub ArePut : Weaving → Module → Function → ℕ → List ℕ → List Instr → Type 0
ArePut w m f block made [] = Unit {0}
ArePut w m f block made (i ∷ is) = IsPutIn w m f block made i × ArePut w m f block (option_to_list (result_of i) ++ made) is

module _ (w : Weaving) (m : Module) (f : Function) (block : ℕ) where
  pub puts_woven : (made : List ℕ) (xs is js : List Instr) → ArePut w m f block made xs → AreWoven w m f block (made_by_instrs made xs) is js → AreWoven w m f block made is (xs ++ js)
  puts_woven made [] is js h rest = rest
  puts_woven made (x ∷ xs) is js h rest = Put made x is (xs ++ js) h.0 (puts_woven (option_to_list (result_of x) ++ made) xs is js h.1 rest)

  pub all_put : (made : List ℕ) (xs : List Instr) → ArePut w m f block made xs → AreWoven w m f block made [] xs
  all_put made [] h = Done made
  all_put made (x ∷ xs) h = Put made x [] xs h.0 (all_put (option_to_list (result_of x) ++ made) xs h.1)

  pub puts_joined : (made : List ℕ) (xs ys : List Instr) → ArePut w m f block made xs → ArePut w m f block (made_by_instrs made xs) ys → ArePut w m f block made (xs ++ ys)
  puts_joined made [] ys h k = k
  puts_joined made (x ∷ xs) ys h k = (h.0, puts_joined (option_to_list (result_of x) ++ made) xs ys h.1 k)

  -- ---- what is known stays known

  pub known_grows : (made now : List ℕ) → AreAmong made now → (x : Operand) → IsKnown w f block made x → IsKnown w f block now x
  known_grows made now among _ (New n low h) = New n low (among n h)
  known_grows made now among _ (Front n other h) = Front n other h
  known_grows made now among _ (Old v stays is none) = Old v stays is (λ r a b. none r (λ l. a (among v l)) b)
  known_grows made now among _ (Constant x h) = Constant x h
