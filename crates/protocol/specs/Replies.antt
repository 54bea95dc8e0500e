-- The bytes of each reply; a line has two digits for each.
use Rattle.std.specs.Prelude.{ℕ, cond, List, ◌∷◌, ◌++◌}
use Rattle.std.specs.Int.{w32}
use Rattle.std.proofs.Common.{of_z}
use Rattle.std.specs.Option.{unwrap_or}
use Rattle.codec.specs.Expressions.{two, four}
use Rattle.script.specs.Refusals.{run_refusal}
use Rattle.script.specs.declared.faults.RunFault.{RunFault}
use Rattle.protocol.specs.declared.replies.Reply.{Reply}
use Rattle.protocol.specs.declared.replies.Reply.TheVariants.{Fed, Advanced, Channel, Entry, Refused, Closed}

-- 63 track, samples held (2); 62 turns (2); 60 channel, entries (2), missed (4); 61 turn (4), thread, mark, value (4); 6F number, line (2); 64 turns (4).
abbrev pub reply_bytes : Reply → List ℕ
reply_bytes (Fed track held) = 0x63 ∷ track ∷ two held
reply_bytes (Advanced turns) = 0x62 ∷ two turns
reply_bytes (Channel channel entries missed) = 0x60 ∷ channel ∷ (two entries ++ four missed)
reply_bytes (Entry turn thread mark value) = 0x61 ∷ (four turn ++ (thread ∷ cond mark 1 0 ∷ four (of_z w32 value)))
reply_bytes (Refused number line) = 0x6F ∷ number ∷ two line
reply_bytes (Closed turns) = 0x64 ∷ four turns

-- A fault's number, at its own line, or where it has none at the line given.
abbrev pub refused_at : RunFault → ℕ → Reply
refused_at fault line = Refused (run_refusal fault).number (unwrap_or (run_refusal fault).line line)
