-- Unfinished rules: `Frame` is a rule of which the tokens so far have the beginning. The innermost stands first.
use Rattle.std.specs.Prelude.{ℕ, suc, ◌+◌, List, [], ◌∷◌, Bool, true, false}
use Rattle.syntax_steps.specs.declared.frame.Frame.{Frame}
use Rattle.syntax_steps.specs.Rules.{binary_rule, prefix_rule}

-- whether a rule is a level while it is unfinished: `(` of a call or of an expression, `-` and `!` before an operand
abbrev pub level_of : Frame → ℕ
level_of (Frame.Under op at) = 1
level_of (Frame.Paren at) = 1
level_of (Frame.Args name at args) = 1
level_of _ = 0

-- how many levels are open
abbrev pub levels : List Frame → ℕ
levels [] = 0
levels (frame ∷ frames) = level_of frame + levels frames

-- the loosest rule of an expression that may stand where the innermost unfinished rule goes on, 11 where none may
abbrev pub need : List Frame → ℕ
need (Frame.Right op at left ∷ frames) = suc (binary_rule op)
need (Frame.Under op at ∷ frames) = prefix_rule op
need (Frame.Paren at ∷ frames) = 1
need (Frame.Args name at args ∷ frames) = 0
need (Frame.Label name at ∷ frames) = 0
need _ = 11

-- whether a pipeline may stand there
abbrev pub takes_pipe : List Frame → Bool
takes_pipe (Frame.Args name at args ∷ frames) = true
takes_pipe (Frame.Label name at ∷ frames) = true
takes_pipe (Frame.Target name ∷ frames) = true
takes_pipe (Frame.Body assigns ∷ frames) = true
takes_pipe _ = false

-- whether a call may stand there
abbrev pub takes_call : List Frame → Bool
takes_call (Frame.Piped table at calls ∷ frames) = true
takes_call (Frame.Target name ∷ frames) = false
takes_call (Frame.Body assigns ∷ frames) = false
takes_call [] = false
takes_call _ = true
