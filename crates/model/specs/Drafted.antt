-- What a draft means. Assumes nothing.
use Rattle.model.specs.declared.draft.Draft.{Draft}
use Rattle.model.specs.Values.{Value}
use Rattle.model.specs.Drafts.{stored_records}

abbrev pub drafted : Draft → Value
drafted d = record { windows = d.windows.items; records = stored_records d.terms.items d.distinct.items d.stored.items }
