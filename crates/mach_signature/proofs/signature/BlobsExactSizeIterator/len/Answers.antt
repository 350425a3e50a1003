use Rattle.std.proofs.Common.{◌∙◌, sym}
use Rattle.mach_base.proofs.ItemLists.{length-items_from}
use Rattle.mach_signature.specs.SuperBlob.{blob_at}
use Rattle.mach_signature.specs.SignViews.{signature_view}
use Rattle.mach_signature.proofs.signature.BlobsExactSizeIterator.len.Goals as goal

pub returns-clause-value : goal.returns-clause-value
returns-clause-value c =
    let i = c.args.self.now in
    c.saturating_sub.ensures ∙ sym (length-items_from (blob_at (signature_view i.signature)) i.index _)
