-- The sign is made of its parts.
use Rattle.engine.proofs.Turned.{out_rewritable, out_done, out_turned}
use Rattle.engine.proofs.Honesty.{honest_grown}
use Rattle.books.specs.Books.{told}
use Rattle.engine.proofs.work.Work.go_out.Goals as goal

pub apply-requires-clause-rewritable : goal.apply-requires-clause-rewritable
apply-requires-clause-rewritable c =
    let (low, ready) = c.requires.can_turn in
    let k = c.requires.frame.0 in
    out_rewritable c.args.book.now low c.args.self.now.store c.args.self.now.roots c.args.self.now.frames c.args.v ready k.some
    c.args.frame k.is c.gather_parts-parts.result
    c.share_sign-p.new.self c.share_sign-p.result c.requires.frame.1 c.gather_parts-parts.ensures c.share_sign-p.ensures.shared

pub apply-requires-clause-honest : goal.apply-requires-clause-honest
apply-requires-clause-honest c =
    honest_grown (told c.args.book.now).rules c.args.self.now.store c.share_sign-p.new.self c.requires.can_turn.1.running.honest
    c.share_sign-p.ensures.shared.grown

pub apply-requires-clause-done : goal.apply-requires-clause-done
apply-requires-clause-done c =
    let (low, ready) = c.requires.can_turn in
    let k = c.requires.frame.0 in
    out_done c.args.book.now low c.args.self.now.store c.args.self.now.roots c.args.self.now.frames c.args.v ready k.some
    c.args.frame k.is c.gather_parts-parts.result
    c.share_sign-p.new.self c.share_sign-p.result c.requires.frame.1 c.gather_parts-parts.ensures
    c.share_sign-p.ensures.shared

pub returns : goal.returns
returns c low ready =
    let k = c.requires.frame.0 in
    out_turned c.args.book.now low c.args.self.now.store c.args.self.now.roots c.args.self.now.frames c.args.v ready k.some
    c.args.frame k.is c.gather_parts-parts.result c.share_sign-p.new.self c.share_sign-p.result c.requires.frame.1
    c.gather_parts-parts.ensures c.share_sign-p.ensures.shared c.apply.new.store c.truncate.new.self c.pop.new.self
    c.apply.result c.truncate.ensures c.pop.ensures c.apply.ensures
