-- What is lowered breaks no rule, and its framed form may be split.
use Rattle.std.specs.Prelude.{None}
use Rattle.pass_proofs.specs.rule_all.Refused.{IsRefused}
use Rattle.compiler.specs.Lowering.{OfLowered}
use Rattle.compiler.specs.declared.lowered.Lowering.{Lowering}
use Rattle.compiler.specs.cleanup.accepted.Ready.{IsReady}
use Rattle.pass_proofs.specs.rule_names.declared.stage.Stage.{Stage}

-- the lowered module, where there is one, breaks none of the rules of modules without coroutines
abbrev pub BreaksNoRule : Lowering → Type 0
BreaksNoRule = OfLowered (λ l. IsRefused Stage.Plain l.«module» None)

-- the framed form, where there is one, is a framed module: its frames are laid out by these layouts, and its coroutines are as splitting asks
abbrev pub IsFramed : Lowering → Type 0
IsFramed = OfLowered (λ l. IsReady l.layouts l.framed)
