-- The table that a search goes over. Assumes nothing.
use Rattle.table.specs.Table.{Table}
use Rattle.readers.specs.Read.{table_in}
use Rattle.verdict.specs.declared.search.Search.{Search}

abbrev pub searched : Search → Table
searched search = table_in search.sound.now.table
