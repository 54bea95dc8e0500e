use Rattle.std.proofs.Common.{◌≡◌, sym, ap, ◌∙◌, w32, SFits, rules}
use Rattle.std.proofs.lemmas.Int.{to_z-of_z}
use Rattle.protocol.specs.Replies.{reply_bytes}
use Rattle.protocol.specs.declared.replies.Reply.TheVariants.{Entry}
use Rattle.protocol.proofs.Writing.{put_same}
use Rattle.protocol.proofs.replies.put_reply.Goals as goal

pub returns-in-Entry : goal.returns-in-Entry
returns-in-Entry c =
    let value : SFits w32 c.in-Entry.value = search rules in
    let e : c.entry_bytes.result ≡ reply_bytes c.args.reply =
    c.entry_bytes.ensures
    ∙ ap (λ v. reply_bytes (Entry c.in-Entry.turn c.in-Entry.thread c.in-Entry.mark v)) (to_z-of_z w32 c.in-Entry.value value)
    ∙ ap reply_bytes (sym c.in-Entry.is) in
    put_same _ _ _ _ _ e c.put_line-in-Entry.ensures
