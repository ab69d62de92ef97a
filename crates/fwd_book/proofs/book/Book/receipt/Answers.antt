use Rattle.std.proofs.Common.{sym, ap, ◌∙◌}
use Rattle.fwd_book.specs.History.{request_at}
use Rattle.fwd_book.specs.Live.{BookState}
use Rattle.fwd_book.proofs.book.Book.receipt.Goals as goal

pub receipt_of-requires : goal.receipt_of-requires
receipt_of-requires c = record {
  held = (c.args.origin, sym (c.in-Some.ensures ∙ ap (λ (s : BookState). request_at s.live.requests c.args.origin) c.self.view_is));
}
